-- Calls on an index that threads share: whom they serve, what a hold of its lock is, and what they answer.
use Rattle.std.specs.Prelude.{◌≡◌, ◌≢◌, ◌==◌, ◌&&◌, ◌<◌, ◌≤◌, ◌⊎◌, leb, ltb, ℕ, suc, Bool, true, false, List, [], ◌∷◌, length, take, Option, None, Some, is_some, Result, Ok, Err, Vec, map, min, ◌+◌, if◌then◌else◌}
use Rattle.std.specs.Arc.{arc_value}
use Rattle.std.specs.List.{sum_by}
use Rattle.std.specs.Option.{option_map}
use Rattle.std.specs.declared.alloc.Global.{Global}
use Rattle.std.specs.declared.sync.Arc.{Arc}
use Rattle.judge.specs.declared.journal.Reply.TheVariants.{Get, Insert, Remove, ComputePresent, ComputeInsert, Exchange}
use Rattle.judge.specs.Answer.{Pairs}
use Rattle.crossbeam_epoch.specs.world.Ending.{registered_in}
use Rattle.congee.specs.declared.owned.stats.NodeStats.{NodeStats}
use Rattle.congee.specs.owned.Stats.{capped}
use Rattle.joint.specs.declared.nodes.account.Account.{Account}
use Rattle.joint.specs.declared.refusal.Refusal.{Refusal}
use Rattle.joint.specs.declared.refusal.Refusal.TheVariants.{Busy, Count, Foreign, Idle, Memory, Unknown, Unpinned, WorkersLeft}
use Rattle.joint.specs.declared.steps.Done.{Done as Answer}
use Rattle.joint.specs.declared.steps.Done.TheVariants.{Unit as Finished, Reply, Scanned, Keys, Empty, Stats}
use Rattle.joint.specs.declared.steps.Event.{Event}
use Rattle.joint.specs.declared.steps.Event.TheVariants.{Register, Begin, Go}
use Rattle.joint.specs.declared.steps.Op.{Op}
use Rattle.joint.specs.declared.steps.Op.TheVariants as op
use Rattle.joint.specs.declared.steps.Outcome.{Outcome}
use Rattle.joint.specs.declared.steps.Outcome.TheVariants.{Registered, Refused}
use Rattle.joint.specs.declared.steps.Report.{Report}
use Rattle.joint.specs.declared.steps.Step.{Step}
use Rattle.joint.specs.declared.threads.tokens.Guard.{Guard}
use Rattle.joint.specs.declared.threads.tokens.Worker.{Worker}
use Rattle.joint.specs.engine.Closing.{IsClosed, account_of}
use Rattle.joint.specs.engine.Log.{request_at}
use Rattle.joint.specs.engine.Looks.{Looks}
use Rattle.joint.specs.threads.Driving.{IsDriven, ended}
use Rattle.joint.specs.nodes.Listing.{bytes_of, standing_nodes}
use Rattle.joint.specs.engine.Census.{waiting_nodes}
use Rattle.joint.specs.world.World.{Holds, IsStep}
use Rattle.joint.specs.engine.Engine.{World}

-- the worker is of the index of this number
abbrev pub is_of : ℕ → Worker → Bool
is_of id w = w.tree == id

-- and so is the guard, which is the worker's
abbrev pub is_held_by : ℕ → Worker → Guard → Bool
is_held_by id w g = (w.tree == id) && ((g.tree == id) && (g.worker == w.number))

-- a call with the tokens of another index, or with a guard of another worker, is refused for that
abbrev pub Serves : {B : Type 0} → Bool → (Result B Refusal → Type 0) → Result B Refusal → Type 0
Serves true does result = does result
Serves false does result = result ≡ Err Foreign

-- with a refusal comes back what it was handed
abbrev pub Hands : {B X : Type 0} → Bool → (Result B Refusal → Type 0) → X → Result B (Refusal × X) → Type 0
Hands serves does x (Ok b) = Serves serves does (Ok b)
Hands serves does x (Err e) = Serves serves does (Err e.0) × (e.1 ≡ x)

-- how a whole call ends
abbrev pub End : Type 0 → Type 0
End V = Result (Answer V) Refusal

-- a hold of the lock is one step of the machine, in whatever state others have left it
abbrev pub IsHold : {V : Type 0} → (V → V → Bool) → Bool → Step V → Report V → Type 0
IsHold {V} same always step r = (s : World V) × (s' : World V) × IsStep same always s step r s'

-- a turn of a call, on the machine that stands, whatever call of whatever worker it is of
abbrev pub ByStep : {V : Type 0} → (V → V → Bool) → Bool → World V → ℕ → Op V → Step V → Report V → World V → Type 0
ByStep same always s who o step r s' = IsStep same always s step r s'

-- and in whatever state others have left it
abbrev pub ByHold : {V : Type 0} → (V → V → Bool) → Bool → ℕ → Op V → Step V → Report V → Type 0
ByHold same always who o step r = IsHold same always step r

-- the call that the worker has in flight, as it was asked for
abbrev pub call_in_flight : {V : Type 0} → World V → ℕ → Option (Op V)
call_in_flight s who = option_map (λ q. q.op) (request_at s.log.requests who)

-- a step is one of this call of the worker's: its begin, or a further one while it is what the worker has in flight
abbrev pub IsOwn : {V : Type 0} → World V → ℕ → Op V → Event V → Type 0
IsOwn s who o Register = ⊥
IsOwn s who o (Begin begun) = Unit {0}
IsOwn s who o (Go noise) = call_in_flight s who ≡ Some o

-- a turn of a call of words takes its step of the machine that stands, in which the call is its worker's in flight
pub record TakesOwn {V : Type 0} (same : V → V → Bool) (always : Bool) (s : World V) (who : ℕ) (o : Op V) (step : Step V) (r : Report V) (s' : World V) : Type 0 where
  pub own : IsOwn s who o step.event
  pub takes : IsStep same always s step r s'

-- where it isn't, the call is idle, and leaves the machine as it is
pub record StopsIdle {V : Type 0} (same : V → V → Bool) (always : Bool) (s : World V) (who : ℕ) (o : Op V) (step : Step V) (r : Report V) (s' : World V) : Type 0 where
  pub holds : Holds same always s
  pub why : IsOwn s who o step.event → ⊥
  pub idle : r.outcome ≡ Refused Idle
  pub stays : s' ≡ s

-- a turn of it is one of these
abbrev pub OwnTurn : {V : Type 0} → (V → V → Bool) → Bool → World V → ℕ → Op V → Step V → Report V → World V → Type 0
OwnTurn same always s who o step r s' = TakesOwn same always s who o step r s' ⊎ StopsIdle same always s who o step r s'

-- in whatever state others have left it
abbrev pub ByOwn : {V : Type 0} → (V → V → Bool) → Bool → ℕ → Op V → Step V → Report V → Type 0
ByOwn {V} same always who o step r = (s : World V) × (s' : World V) × OwnTurn same always s who o step r s'

-- a whole call, whose turns are as `hold` says of this call, and which ends so; the closure answers between two turns
abbrev pub IsByHolds : {V F Q : Type 0} → (ℕ → Op V → Step V → Report V → Type 0) → (F → Option V → Option V → F → Type 0) → (ℕ → V → Q) → ℕ → Op V → F → List Q → List Q → Outcome V → Type 0
IsByHolds {V} {F} {Q} hold calls pair who o f places places' outcome =
    IsDriven {S = Unit {0}} (λ _ step r _. hold who o step r) calls pair who o f (tt {0}) places (tt {0}) places' outcome

-- a whole call with this closure; what it answers is read off its end
abbrev pub Computes : {V F B : Type 0} → (ℕ → Op V → Step V → Report V → Type 0) → (F → Option V → Option V → F → Type 0) → ℕ → Op V → F → (End V → B) → B → Type 0
Computes {V} hold calls who o f reads result = (end : End V) × IsByHolds {Q = ℕ × V} hold calls (λ k v. (k, v)) who o f [] [] (ended end) × (result ≡ reads end)

-- one that wants no answer of a closure, and writes the pairs that it finds to these places
abbrev pub Scans : {V Q B : Type 0} → (ℕ → Op V → Step V → Report V → Type 0) → (ℕ → V → Q) → ℕ → Op V → List Q → List Q → (End V → B) → B → Type 0
Scans {V} hold pair who o places places' reads result =
    (end : End V) × IsByHolds {F = Unit {0}} hold (λ _ _ _ _. Unit {0}) pair who o (tt {0}) places places' (ended end) × (result ≡ reads end)

-- one that finds no pairs either
abbrev pub Answers : {V B : Type 0} → (ℕ → Op V → Step V → Report V → Type 0) → ℕ → Op V → (End V → B) → B → Type 0
Answers {V} hold who o reads result = Scans {V = V} {Q = ℕ × V} hold (λ k v. (k, v)) who o [] [] reads result

-- a closure that is asked for a present value alone
abbrev pub if_present : {V F : Type 0} → (F → V → Option V → F → Type 0) → F → Option V → Option V → F → Type 0
if_present step f None answer f' = (answer ≡ None) × (f' ≡ f)
if_present step f (Some v) answer f' = step f v answer f'

-- one that always gives a value
abbrev pub or_insert : {V F : Type 0} → (F → Option V → V → F → Type 0) → F → Option V → Option V → F → Type 0
or_insert step f found None f' = ⊥
or_insert step f found (Some v) f' = step f found v f'

-- a registration; the step's worker isn't looked at
abbrev pub register_step : {V : Type 0} → Step V
register_step = record { worker = 0; event = Register }

-- what it answers: a worker of this index, or why there is none
abbrev pub registered : {V : Type 0} → ℕ → Outcome V → Result Worker Refusal
registered id (Registered n) = Ok (record { tree = id; number = n })
registered id (Refused e) = Err e
registered id _ = Err Idle

-- how a call without a value reads its end; the end of another call, which none of these meets, makes Idle
abbrev pub told : {V : Type 0} → End V → Result (Unit {0}) Refusal
told (Ok Finished) = Ok (tt {0})
told (Err e) = Err e
told _ = Err Idle

-- a call that only reads is refused as this: for misuse, for the tokens of another index, or as Count
abbrev pub IsOfReader : Refusal → Type 0
IsOfReader Busy = Unit {0}
IsOfReader Count = Unit {0}
IsOfReader Foreign = Unit {0}
IsOfReader Idle = Unit {0}
IsOfReader Unknown = Unit {0}
IsOfReader Unpinned = Unit {0}
IsOfReader _ = ⊥

-- how it reads a refusal; that of another call, which none of these meets, makes Idle
abbrev pub of_reader : Refusal → Refusal
of_reader Busy = Busy
of_reader Count = Count
of_reader Foreign = Foreign
of_reader Unknown = Unknown
of_reader Unpinned = Unpinned
of_reader _ = Idle

-- what a look-up answers: the value at the key, if there is one
abbrev pub got : {V : Type 0} → End V → Result (Option V) Refusal
got (Ok (Reply (Get v))) = Ok v
got (Err e) = Err (of_reader e)
got _ = Err Idle

-- whether the key of a look-up has a value
abbrev pub contained : {V : Type 0} → End V → Result Bool Refusal
contained (Ok (Reply (Get v))) = Ok (is_some v)
contained (Err e) = Err (of_reader e)
contained _ = Err Idle

-- what an insertion answers: the value before it, if there was one
abbrev pub inserted : {V : Type 0} → End V → Result (Option V) Refusal
inserted (Ok (Reply (Insert v))) = Ok v
inserted (Err e) = Err e
inserted _ = Err Idle

-- what a removal answers: the value that it took out, if there was one
abbrev pub removed : {V : Type 0} → End V → Result (Option V) Refusal
removed (Ok (Reply (Remove v))) = Ok v
removed (Err e) = Err e
removed _ = Err Idle

-- what a call on a present key alone answers: the value before, and what its closure left
abbrev pub computed : {V : Type 0} → End V → Result (Option (V × Option V)) Refusal
computed (Ok (Reply (ComputePresent pair))) = Ok pair
computed (Err e) = Err e
computed _ = Err Idle

-- what a call that computes what to insert answers: the value before it, if there was one
abbrev pub replaced : {V : Type 0} → End V → Result (Option V) Refusal
replaced (Ok (Reply (ComputeInsert v))) = Ok v
replaced (Err e) = Err e
replaced _ = Err Idle

-- what an exchange answers: what it put at the key, or what stood there where it failed
abbrev pub exchanged : {V : Type 0} → End V → Result (Result (Option V) (Option V)) Refusal
exchanged (Ok (Reply (Exchange r))) = Ok r
exchanged (Err e) = Err e
exchanged _ = Err Idle

-- the keys of a scan, from its first on to before its end
abbrev pub bounds : {V : Type 0} → Op V → ℕ × ℕ
bounds (op.Range start end size) = (start, end)
bounds (op.RangeInclusive start last size) = (start, suc last)
bounds _ = (0, 0)

-- keys that ascend from one on, and end before another
abbrev pub Ascend : ℕ → ℕ → List ℕ → Type 0
Ascend start end [] = Unit {0}
Ascend start end (k ∷ keys) = (start ≤ k) × (k < end) × Ascend (suc k) end keys

-- whether they do
abbrev pub ascends : ℕ → ℕ → List ℕ → Bool
ascends start end [] = true
ascends start end (k ∷ keys) = leb start k && (ltb k end && ascends (suc k) end keys)

-- so many places of these keys were filled, if those ascend within the range
abbrev pub filled : ℕ × ℕ → List ℕ → ℕ → Result ℕ Refusal
filled range keys n = if ascends range.0 range.1 (take n keys) then Ok n else Err Idle

-- what a scan of this range answers, whose places have these keys: how many of them it filled; one that is told of more places
-- than there are, or whose keys don't ascend there, is met in no run
abbrev pub scanned : {V : Type 0} → ℕ × ℕ → List ℕ → End V → Result ℕ Refusal
scanned range keys (Ok (Scanned n)) = filled range keys (min n (length keys))
scanned range keys (Err e) = Err (of_reader e)
scanned range keys _ = Err Idle

-- what the question for emptiness answers
abbrev pub emptied : {V : Type 0} → End V → Result Bool Refusal
emptied (Ok (Empty b)) = Ok b
emptied (Err e) = Err (of_reader e)
emptied _ = Err Idle

-- what a list of keys answers
abbrev pub listed : {V : Type 0} → End V → Result (Vec ℕ Global) Refusal
listed (Ok (Keys keys)) = Ok keys
listed (Err e) = Err e
listed _ = Err Idle

-- what the statistics answer
abbrev pub counted : {V : Type 0} → End V → Result NodeStats Refusal
counted (Ok (Stats stats)) = Ok stats
counted (Err e) = Err e
counted _ = Err Idle

-- and how many pairs there are, of them
abbrev pub pairs_counted : {V : Type 0} → End V → Result ℕ Refusal
pairs_counted (Ok (Stats stats)) = Ok stats.kv_pairs
pairs_counted (Err e) = Err e
pairs_counted _ = Err Idle

-- a pin that has ended so makes a guard of the worker's
abbrev pub guarded : ℕ → ℕ → Result (Unit {0}) Refusal → Result Guard Refusal
guarded id who (Ok t) = Ok (record { tree = id; worker = who })
guarded id who (Err e) = Err (of_reader e)

-- a pin, and the guard that it makes or why it is refused
abbrev pub Pins : {V : Type 0} → (ℕ → Op V → Step V → Report V → Type 0) → ℕ → ℕ → Result Guard Refusal → Type 0
Pins {V} hold id who result = (end : Result (Unit {0}) Refusal) × Answers {V = V} hold who op.Pin told end × (result ≡ guarded id who end)

-- a round: pin, flush, unpin, each a whole call; the first refusal is the round's, and after a refused flush it unpins
abbrev pub first_of : Result (Unit {0}) Refusal → Result (Unit {0}) Refusal → Result (Unit {0}) Refusal
first_of (Ok t) r = r
first_of (Err e) r = Err e

-- the same from what stands to what it leaves, where of each call it is known from what to what it led: each begins where
-- the one before it left off
abbrev pub RoundsFrom : {V S : Type 0} → (S → Op V → Result (Unit {0}) Refusal → S → Type 0) → Result (Unit {0}) Refusal → S → Result (Unit {0}) Refusal → S → Type 0
RoundsFrom ends (Err e) s result s' = (result ≡ Err e) × (s' ≡ s)
RoundsFrom {V} {S} ends (Ok t) s result s' = (flushed : Result (Unit {0}) Refusal) × (between : S) × (left : Result (Unit {0}) Refusal)
    × ends s op.Flush flushed between × ends between op.Unpin left s' × (result ≡ first_of flushed left)

-- the whole round, so
abbrev pub Rounds : {V S : Type 0} → (S → Op V → Result (Unit {0}) Refusal → S → Type 0) → S → Result (Unit {0}) Refusal → S → Type 0
Rounds {V} {S} ends s result s' = (begun : Result (Unit {0}) Refusal) × (pinned : S) × ends s op.Pin begun pinned × RoundsFrom {V = V} ends begun pinned result s'

-- a lock hides what stands between the calls
abbrev pub IsRoundFrom : {V : Type 0} → (ℕ → Op V → Step V → Report V → Type 0) → ℕ → Result (Unit {0}) Refusal → Result (Unit {0}) Refusal → Type 0
IsRoundFrom hold who (Err e) result = result ≡ Err e
IsRoundFrom {V} hold who (Ok t) result = (flushed : Result (Unit {0}) Refusal) × (left : Result (Unit {0}) Refusal)
    × Answers {V = V} hold who op.Flush told flushed × Answers {V = V} hold who op.Unpin told left × (result ≡ first_of flushed left)

-- the whole round, so
abbrev pub IsRound : {V : Type 0} → (ℕ → Op V → Step V → Report V → Type 0) → ℕ → Result (Unit {0}) Refusal → Type 0
IsRound {V} hold who result = (begun : Result (Unit {0}) Refusal) × Answers {V = V} hold who op.Pin told begun × IsRoundFrom {V = V} hold who begun result

-- the values of words
abbrev pub words : {B : Type 0} → (ℕ → B) → Result (Option ℕ) Refusal → Result (Option B) Refusal
words of (Ok v) = Ok (option_map of v)
words of (Err e) = Err e

-- and the pair, by its key and its value
abbrev pub pair_words : {K V W : Type 0} → (ℕ → K) → (W → V) → Result (Option (ℕ × W)) Refusal → Result (Option (K × V)) Refusal
pair_words key value (Ok found) = Ok (option_map (λ pair. (key pair.0, value pair.1)) found)
pair_words key value (Err e) = Err e

-- the same of the two that an exchange answers
abbrev pub either_of : {B : Type 0} → (ℕ → B) → Result (Option ℕ) (Option ℕ) → Result (Option B) (Option B)
either_of of (Ok v) = Ok (option_map of v)
either_of of (Err v) = Err (option_map of v)

-- the same of an exchange's answer or refusal
abbrev pub either_words : {B : Type 0} → (ℕ → B) → Result (Result (Option ℕ) (Option ℕ)) Refusal → Result (Result (Option B) (Option B)) Refusal
either_words of (Ok r) = Ok (either_of of r)
either_words of (Err e) = Err e

-- keys of words, for which there may be no memory
abbrev pub AreKeys : {K : Type 0} → (ℕ → K) → Result (Vec ℕ Global) Refusal → Result (Vec K Global) Refusal → Type 0
AreKeys of (Err e) result = result ≡ Err e
AreKeys of (Ok words) (Ok keys) = keys.items ≡ map of words.items
AreKeys of (Ok words) (Err e) = e ≡ Memory

-- what a call of words answers, in other types
abbrev pub As : {A B : Type 0} → (A → Type 0) → (A → B) → B → Type 0
As {A} does of result = (read : A) × does read × (result ≡ of read)

-- what is told of the machine, in whatever state others have left it
abbrev pub IsTold : {V B : Type 0} → (V → V → Bool) → Bool → (World V → B) → B → Type 0
IsTold {V} same always of result = (s : World V) × Holds same always s × (result ≡ of s)

-- a worker's look for a pair of those that stand, in whatever state others have left them
abbrev pub Finds : {V : Type 0} → (V → V → Bool) → Bool → ℕ → (Pairs V → Option (ℕ × V) → Type 0) → Result (Option (ℕ × V)) Refusal → Type 0
Finds {V} same always who is result = (s : World V) × Holds same always s × Looks always s who is result

-- the bytes charged: what came in with the allocator, and the sizes of the nodes that stand; past 64 bits, which no allocator
-- charges, the greatest number
abbrev pub charge_of : {V : Type 0} → Account → World V → ℕ
charge_of account s = capped (account.charged + sum_by (bytes_of s.forest) (standing_nodes s.forest))

-- how many nodes wait for their destruction
abbrev pub waiting_of : {V : Type 0} → World V → ℕ
waiting_of s = length (waiting_nodes s)

-- the bytes of the nodes that wait
abbrev pub waiting_bytes_of : {V : Type 0} → World V → ℕ
waiting_bytes_of s = sum_by (bytes_of s.forest) (waiting_nodes s)

-- a closed index: the machine that the lock kept was closed with this drainer
abbrev pub Closes : {V D : Type 0} → (V → V → Bool) → Bool → (D → ℕ → V → D → Type 0) → D → ℕ → ℕ → D → Type 0
Closes {V} same always drains before charge limit after = (s : World V) × Holds same always s × IsClosed drains s before charge limit after

-- the same, and this is what the lock kept beside that machine
abbrev pub ClosesWith : {V D K : Type 0} → (V → V → Bool) → Bool → (D → ℕ → V → D → Type 0) → (K → World V → Type 0) → D → ℕ → ℕ → D → K → Type 0
ClosesWith {V} same always drains keeps before charge limit after kept = (s : World V) × Holds same always s × IsClosed drains s before charge limit after × keeps kept s

-- the same of one whose pairs are dropped
abbrev pub Drops : {V : Type 0} → (V → V → Bool) → Bool → ℕ → ℕ → Type 0
Drops {V} same always charge limit = (s : World V) × Holds same always s × (registered_in s.forest.collector ≡ 0) × (charge ≡ s.forest.base) × (limit ≡ s.forest.limit)

-- an account has this charge and this limit
abbrev pub IsAccount : Account → ℕ → ℕ → Type 0
IsAccount account charge limit = (charge ≡ account.charged) × (limit ≡ account.limit)

-- it wasn't closed, since workers were registered; or since the lock kept a machine with which another account came in
abbrev pub IsUnclosed : {V : Type 0} → (V → V → Bool) → Bool → Account → Refusal → Type 0
IsUnclosed {V} same always account (WorkersLeft n) = (s : World V) × Holds same always s × (0 < n) × (n ≡ registered_in s.forest.collector)
IsUnclosed {V} same always account Foreign = (s : World V) × Holds same always s × (account_of s ≢ account)
IsUnclosed same always account _ = ⊥

-- a closure over owners that is asked for a present value alone
abbrev pub if_owned : {V F : Type 0} → (F → Arc V Global → Option (Arc V Global) → F → Type 0) → F → Option V → Option V → F → Type 0
if_owned step f None answer f' = (answer ≡ None) × (f' ≡ f)
if_owned {V} step f (Some v) answer f' = (given : Arc V Global) × (new : Option (Arc V Global)) × (arc_value given ≡ v) × step f given new f' × (answer ≡ option_map arc_value new)

-- the values of owners
abbrev pub owned : {V : Type 0} → Result (Option (Arc V Global)) Refusal → Result (Option V) Refusal
owned (Ok owner) = Ok (option_map arc_value owner)
owned (Err e) = Err e

-- and of the pair of one
abbrev pub owned_pair : {K V : Type 0} → Result (Option (K × Arc V Global)) Refusal → Result (Option (K × V)) Refusal
owned_pair (Ok found) = Ok (option_map (λ pair. (pair.0, arc_value pair.1)) found)
owned_pair (Err e) = Err e

-- the values before
abbrev pub befores : {V : Type 0} → Result (Option (V × Option V)) Refusal → Result (Option V) Refusal
befores (Ok pair) = Ok (option_map (λ p. p.0) pair)
befores (Err e) = Err e

-- what a call of values answers, as owners of them
abbrev pub Owns : {A V : Type 0} → (A → Type 0) → (A → Result (Option V) Refusal) → Result (Option (Arc V Global)) Refusal → Type 0
Owns {A} does of result = (read : A) × does read × (owned result ≡ of read)

-- the same of a pair, whose key is of words
abbrev pub OwnsPair : {K V : Type 0} → (Result (Option (ℕ × V)) Refusal → Type 0) → (ℕ → K) → Result (Option (K × Arc V Global)) Refusal → Type 0
OwnsPair {V = V} does key result = (read : Result (Option (ℕ × V)) Refusal) × does read × (owned_pair result ≡ pair_words key (λ v. v) read)

-- a refused insertion: by the machine, or since no more owners of the value can be counted
abbrev pub RefusesOwner : {V : Type 0} → Bool → (Result (Option V) Refusal → Type 0) → Refusal → Type 0
RefusesOwner serves does e = Serves serves does (Err e) ⊎ ((serves ≡ true) × (e ≡ Count))
