-- What the program prints of workers that called on an index whose readers take no lock.
use Rattle.std.specs.Prelude.{◌≡◌, ◌==◌, ◌⊎◌, ◌↔◌, ◌&&◌, ℕ, ◌+◌, ◌*◌, ◌/◌, ◌%◌, ◌^◌, Bool, true, nat_eq, IfOk, IsFalse, IsTrue, if◌then◌else◌, List, [], ◌∷◌, ◌++◌, Option, None, Some, Result, Ok, Err, codes, decimal, length, slice_get, take, zero, suc}
use Rattle.std.specs.List.{flat_map}
use Rattle.judge.specs.Journal.{IsLegal}
use Rattle.judge.specs.declared.journal.Call.{Call}
use Rattle.judge.specs.declared.journal.Call.TheVariants.{Get, Insert, Remove}
use Rattle.judge.specs.declared.journal.Entry.{Entry}
use Rattle.judge.specs.declared.journal.Reply.{Reply}
use Rattle.judge.specs.declared.journal.Reply.TheVariants as told
use Rattle.optimistic.specs.declared.drain.nexts.Pair.{Pair}
use Rattle.optimistic.specs.declared.face.refusal.Refusal.{Refusal}
use Rattle.optimistic.specs.declared.words.rule.Entry.{Entry as Decided}
use Rattle.optimistic.specs.words.Kept.{value_of, calls_by, StartsWith}
use Rattle.optimistic.specs.tree.Drained.{IsDrained}
use Rattle.optimistic.specs.face.Calls.{Known, Looked, Found}
use Rattle.optimistic.specs.face.Writes.{IsInserted, IsRemoved}
use Rattle.trial.specs.declared.lockfree.worker.Made.{Made}
use Rattle.trial.specs.declared.lockfree.tallies.Counts.{Counts}
use Rattle.trial.specs.declared.lockfree.tallies.Tallies.{Tallies}
use Rattle.trial.specs.declared.lockfree.tallies.Tally.{Tally}
use Rattle.trial.specs.declared.lockfree.Stop.{Stop}
use Rattle.trial.specs.declared.lockfree.Stop.TheVariants as stop
use Rattle.trial.specs.Histories.{key_of, takes_out}
use Rattle.trial.specs.Texts.{spaced, truth_text}

-- the keys of a worker, by numbers below 97: each lies beside those of the other workers
abbrev pub own_key : ℕ → ℕ → ℕ
own_key worker n = 16 * key_of n + worker

-- the key of a worker's call, by the numbers of both
abbrev pub own_key_at : ℕ → ℕ → ℕ
own_key_at worker number = own_key worker ((7 * worker + number / 2) % 97)

-- a worker's call, of so many
abbrev pub own_call : ℕ → ℕ → ℕ → Call ℕ
own_call calls worker number =
    if number % 4 == 1 then Get (own_key_at worker number)
    else if takes_out number then Remove (own_key_at worker number)
    else Insert (own_key_at worker number) (worker * calls + number)

-- the index answered a call so: from what its worker knew before to what it knows then
abbrev pub Answered : Call ℕ → Reply ℕ → Known → Known → Type 0
Answered (Get k) (told.Get x) v w = Found k x v w
Answered (Insert k n) (told.Insert x) v w = IsInserted k n v w (Ok x)
Answered (Remove k) (told.Remove x) v w = IsRemoved k v w (Ok x)
Answered _ _ v w = ⊥

-- the index answered a worker's call of this number so, or refused it, which did nothing
abbrev pub IsCalled : (calls worker number : ℕ) → Result (Entry ℕ) Refusal → Known → Known → Type 0
IsCalled calls worker number (Ok e) v w = (e.call ≡ own_call calls worker number) × Answered e.call e.reply v w
IsCalled calls worker number (Err r) v w = Looked v w

-- the entry of a call is kept, or a refused one is counted
abbrev pub Keeps : Result (Entry ℕ) Refusal → Made → Made → Type 0
Keeps (Ok e) m n = (n.own.items ≡ m.own.items ++ e ∷ []) × (n.refused ≡ m.refused)
Keeps (Err r) m n = (n.own.items ≡ m.own.items) × (n.refused ≡ m.refused + 1)

-- Of a worker's first calls, of so many, these were made, and so many were refused, which did nothing; then it knows this
pub data Calls (calls worker : ℕ) : ℕ → List (Entry ℕ) → ℕ → Known → Type 0 where
  starts : (w : Known) → w.made ≡ [] → calls_by w.by w.seen ≡ [] → Calls calls worker 0 [] 0 w
  makes : (n refused : ℕ) (own : List (Entry ℕ)) (v w : Known) (e : Entry ℕ) → Calls calls worker n own refused v
      → e.call ≡ own_call calls worker n → Answered e.call e.reply v w → Calls calls worker (n + 1) (own ++ e ∷ []) refused w
  passes : (n refused : ℕ) (own : List (Entry ℕ)) (v w : Known) → Calls calls worker n own refused v
      → Looked v w → Calls calls worker (n + 1) own (refused + 1) w

-- What came of all calls of a worker, which has then seen so much of the log
pub record IsWorked (calls worker : ℕ) (m : Made) (seen : List Decided) : Type 0 where
  pub last : Known
  pub made : Calls calls worker calls m.own.items m.refused last
  pub knows : last.seen ≡ seen
  pub all : length m.own.items + m.refused ≡ calls

-- a look-up of a worker's key, with what it has after all calls of a log
abbrev pub look : List Decided → ℕ → ℕ → Entry ℕ
look log worker key = record { worker = worker; call = Get key; reply = told.Get (value_of key log) }

-- how many keys a worker has
unfoldable pub own_keys : ℕ
own_keys = 97

-- look-ups of a worker's first keys
abbrev pub looks : List Decided → ℕ → ℕ → List (Entry ℕ)
looks log worker zero = []
looks log worker (suc n) = looks log worker n ++ look log worker (own_key worker n) ∷ []

-- one for a value
abbrev pub one_for : Option ℕ → ℕ
one_for None = 0
one_for (Some value) = 1

-- how many of a worker's first keys have a value
abbrev pub valued : List Decided → ℕ → ℕ → ℕ
valued log worker zero = 0
valued log worker (suc n) = valued log worker n + one_for (value_of (own_key worker n) log)

-- What came of the calls of all workers, by their numbers, of each of which so much of the log has all that it has seen
abbrev pub AreWorked : ℕ → List Made → List Decided → Type 0
AreWorked calls made log = (i : ℕ) (m : Made) → slice_get made i ≡ Some m → (seen : List Decided) × IsWorked calls i m seen × StartsWith log seen

-- What is told of a worker, by what came of its calls: how many were made and refused; whether one map, empty at first, answers these as it
-- was told, and leaves at its keys what the log does; and at how many of them that is a value
pub record IsCounted (log : List Decided) (worker : ℕ) (m : Made) (c : Counts) : Type 0 where
  pub made : c.made ≡ length m.own.items
  pub refused : c.refused ≡ m.refused
  pub audited : IsTrue c.audited ↔ IsLegal nat_eq (m.own.items ++ looks log worker own_keys)
  pub pairs : c.pairs ≡ valued log worker own_keys

-- the same of all workers, by their numbers
abbrev pub AreCounted : List Decided → List Made → List Tally → Type 0
AreCounted log made each = (i : ℕ) (one : Tally) → slice_get each i ≡ Some one → (one.worker ≡ i) × ((m : Made) × (slice_get made i ≡ Some m) × IsCounted log i m one.counts)

abbrev pub no_counts : Counts
no_counts = record { made = 0; refused = 0; audited = true; pairs = 0 }

abbrev pub plus : Counts → Counts → Counts
plus a b = record { made = a.made + b.made; refused = a.refused + b.refused; audited = a.audited && b.audited; pairs = a.pairs + b.pairs }

-- the counts of all workers together
abbrev pub together : List Tally → Counts
together [] = no_counts
together (t ∷ ts) = plus t.counts (together ts)

-- the same, and true only where no pair is of another key
abbrev pub in_all : List Tally → ℕ → Counts
in_all ts pairs = let all = together ts in record { made = all.made; refused = all.refused; audited = all.audited && (all.pairs == pairs); pairs = all.pairs }

-- So many workers made so many calls each: the index was closed with these pairs, which are all those of one log; that has all that each
-- worker has seen; each worker's counts, by their numbers, and those in all
pub record AreTold (workers calls : ℕ) (t : Tallies) : Type 0 where
  pub pairs : List Pair
  pub log : List Decided
  pub made : List Made
  pub drained : IsDrained log 0 (2 ^ 64) pairs
  pub worked : AreWorked calls made log
  pub counted : AreCounted log made t.each.items
  pub len : length t.each.items ≡ workers
  pub all : t.all ≡ in_all t.each.items (length pairs)

-- their text, on a line each
abbrev pub counts_text : Counts → List ℕ
counts_text c = codes "calls" ++ spaced c.made ++ codes " refused" ++ spaced c.refused ++ codes " audit " ++ truth_text c.audited ++ codes " pairs" ++ spaced c.pairs ++ codes "\n"

abbrev pub tally_text : Tally → List ℕ
tally_text t = codes "worker" ++ spaced t.worker ++ codes " " ++ counts_text t.counts

abbrev pub tallies_text : Tallies → List ℕ
tallies_text t = flat_map tally_text t.each.items ++ codes "all " ++ counts_text t.all

-- what is told where there is nothing to count
abbrev pub stop_text : Stop → List ℕ
stop_text stop.Index = codes "refused Memory\n"
stop_text stop.Locked = codes "refused Locked\n"
stop_text stop.Memory = []

abbrev pub tallied_text : Result Tallies Stop → List ℕ
tallied_text (Ok t) = tallies_text t
tallied_text (Err e) = stop_text e

-- the counts of workers whose audit is true
abbrev pub IsTrueInAll : Result Tallies Stop → Type 0
IsTrueInAll (Ok t) = IsTrue t.all.audited
IsTrueInAll (Err e) = ⊥

-- The status is 0 where the counts of so many calls are told and the audit is true; and 1 where it is false, where it is told why there is
-- nothing to count, or where a front of what was due was written, since the writer failed or memory was refused.
abbrev pub TellsLockfree : ℕ → ℕ → ℕ → List ℕ → Type 0
TellsLockfree workers calls status text = (told : Result Tallies Stop) × IfOk told (AreTold workers calls)
    × (((status ≡ 0) × IsTrueInAll told × (text ≡ tallied_text told)) ⊎ ((status ≡ 1) × (n : ℕ) × (text ≡ take n (tallied_text told))))
