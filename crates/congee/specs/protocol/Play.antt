-- What any number of calls do, stepped in any order: each is watched from its begin to its end, beside the map.
use Rattle.std.specs.Prelude.{set, ◌≡◌, ℕ, suc, ◌-◌, ltb, leb, cond, ◌<◌, ◌≤◌, ◌^◌, ◌⊎◌, Bool, true, false, List, [], ◌∷◌, length, take, map, Option, None, Some, slice_get}
use Rattle.std.specs.FinMap.{get, empty}
use Rattle.judge.specs.declared.journal.Call.{Call}
use Rattle.judge.specs.declared.journal.Reply.{Reply}
use Rattle.judge.specs.declared.journal.Reply.TheVariants as reply
use Rattle.judge.specs.Answer.{Pairs, answer}
use Rattle.congee.specs.declared.protocol.op.Op.{Op}
use Rattle.congee.specs.declared.protocol.op.Op.TheVariants as op
use Rattle.congee.specs.declared.protocol.phase.Kind.{Kind}
use Rattle.congee.specs.declared.protocol.phase.Kind.TheVariants.{Get, Insert, Remove, ComputePresent, ComputeInsert, Exchange}
use Rattle.congee.specs.declared.protocol.phase.Phase.{Phase}
use Rattle.congee.specs.declared.protocol.phase.Phase.TheVariants.{New, AskOld, AskNew, Confirm, CheckAbove, UpgradeHere, ChangeHere, MakeLesser, UpgradeTop, UpgradeAbove, UpgradeBelow, ChangeAbove, Obsolete, Retire, UnlockBelow, Unlock, Scan, Ended}
use Rattle.congee.specs.declared.protocol.machine.Outcome.{Outcome}
use Rattle.congee.specs.declared.protocol.machine.Outcome.TheVariants.{Running, Asks, Found, Done, Scanned, Refused}
use Rattle.congee.specs.declared.protocol.machine.Move.{Move}
use Rattle.congee.specs.declared.protocol.machine.Machine.{Machine}
use Rattle.congee.specs.declared.protocol.run.Step.{Step}
use Rattle.congee.specs.Heap.{Node}
use Rattle.congee.specs.declared.protocol.scan.ScanState.{ScanState as ScanState}
use Rattle.congee.specs.declared.protocol.scan.Stage.TheVariants as stage
use Rattle.congee.specs.protocol.Scans.{IsScan, written}
use Rattle.congee.specs.protocol.ScanSteps.{new_scan}
use Rattle.congee.specs.protocol.ScanKnown.{HasRange, Tracks}
use Rattle.congee.specs.protocol.Steps.{Stepped}
use Rattle.congee.specs.Keys.{IsMapOf}
use Rattle.congee.specs.Notes.{Note, Tree, LockWords}
use Rattle.congee.specs.protocol.Protocol.{IsCall, HasGift, Asking, Known}
use Rattle.congee.specs.protocol.Holdings.{Holdings, Rests, Apart}
use Rattle.congee.specs.protocol.Handing.{Untouched, Handing, Unlinking, StepHands, StepTakes}
use Rattle.congee.specs.protocol.Opening.{RootAlone, FreshRoot}
use Rattle.congee.specs.protocol.Answers.{KeepsProtocol}
use Rattle.congee.specs.protocol.Names.{KeepsOrigin}
use Rattle.congee.specs.protocol.Causes.{IsCause}
use Rattle.congee.specs.declared.forms.base_node.NodeType.{NodeType}
use Rattle.congee.specs.declared.protocol.store.Refusal.{Refusal}
use Rattle.congee.specs.Keys.{key_bytes}

-- a call's key, what it does there, and the value that it was given
abbrev pub parts : {V : Type 0} → Op V → ℕ × Kind V × Option V
parts (op.Get k) = (k, Get, None)
parts (op.Insert k v) = (k, Insert, Some v)
parts (op.Remove k) = (k, Remove, None)
parts (op.ComputePresent k) = (k, ComputePresent, None)
parts (op.ComputeInsert k) = (k, ComputeInsert, None)
parts (op.Exchange k old new) = (k, Exchange old, new)
parts (op.Range start end size) = (start, Get, None)
parts (op.RangeInclusive start last size) = (start, Get, None)

-- the range of a scan, from its first key to before its end, and the number of its places
abbrev pub range_of : {V : Type 0} → Op V → Option (ℕ × ℕ × ℕ)
range_of (op.Range start end size) = Some (start, end, size)
range_of (op.RangeInclusive start last size) = Some (start, suc last, size)
range_of _ = None

-- its first step; a scan is one to the greatest key of its range, and has no place where its range has no key
abbrev pub first_phase : {C V : Type 0} → C → Op V → Phase C V
first_phase root (op.Range start end size) = Scan (new_scan root start (end - 1) (cond (ltb start end) size 0))
first_phase root (op.RangeInclusive start last size) = Scan (new_scan root start last (cond (leb start last) size 0))
first_phase root _ = New

-- the machine of a call that has not begun
abbrev pub begun : {C V : Type 0} → C → Op V → Machine C V
begun root o = record { root = root; key = (parts o).0; kind = (parts o).1; given = (parts o).2; phase = first_phase root o }

-- a call that has not begun; a scan's range is one of keys of 64 bits
abbrev pub IsBegin : {C V : Type 0} → Kind V → Option V → Phase C V → Type 0
IsBegin kind given New = HasGift kind given
IsBegin kind given (Scan s) = (s.stage ≡ stage.New) × HasRange s
IsBegin kind given _ = ⊥

-- a call that has not begun, on a key of 64 bits
pub record IsNew {C V : Type 0} (m : Machine C V) : Type 0 where
  pub begins : IsBegin m.kind m.given m.phase
  pub key : m.key < 2 ^ 64

-- a call on the root that has not begun, or that has ended
pub record IsIdle {C V : Type 0} (number : C → ℕ) (m : Machine C V) : Type 0 where
  pub root : number m.root ≡ 0
  pub key : m.key < 2 ^ 64
  pub state : IsNew m ⊎ (m.phase ≡ Ended)

-- what a call has of its closure: no answer, an open question, or the answer to the question that it asked last
pub data Question (V : Type 0) : Type 0 where
  Unasked : Question V
  Asked : Option V → Question V
  Replied : Option V → Question V

-- a scan as it is watched: before its begin, with its range and the number of its places; under way, with the maps that
-- stood at its own steps so far, the latest first, and the pairs last told for each place.
-- A call as it is watched: before it takes effect, with the value that it was given or that its closure answered
-- last, and what it has of its closure; after it took effect, with its reply; at its end
pub data Flight (V : Type 0) : Type 0 where
  Pending : ℕ → Kind V → Option V → Question V → Flight V
  Decided : Reply V → Flight V
  Over : Flight V
  Unbegun : (start end size : ℕ) → Flight V
  Scanning : (start end size : ℕ) → List (Pairs V) → List (ℕ × V) → Flight V

-- the value after the closure was asked and answered: to take the key out is no answer where a value is wanted
abbrev pub without : {V : Type 0} → Kind V → Option V → Option V
without ComputeInsert v = v
without _ v = None

-- the value of a call once an answer has come, or none
abbrev pub value_answered : {V : Type 0} → Kind V → Question V → Option (Option V) → Option V → Option V
value_answered kind Unasked answer v = v
value_answered kind (Replied o) answer v = v
value_answered kind (Asked o) None v = v
value_answered kind (Asked o) (Some None) v = without kind v
value_answered kind (Asked o) (Some (Some x)) v = Some x

-- and what the call has of its closure then
abbrev pub after_none : {V : Type 0} → Kind V → Option V → Question V
after_none ComputeInsert o = Asked o
after_none _ o = Replied o

-- the same by the answer that came, or none
abbrev pub resolved : {V : Type 0} → Kind V → Question V → Option (Option V) → Question V
resolved kind Unasked answer = Unasked
resolved kind (Replied o) answer = Replied o
resolved kind (Asked o) None = Asked o
resolved kind (Asked o) (Some None) = after_none kind o
resolved kind (Asked o) (Some (Some x)) = Replied o

-- a call that goes on keeps the answer that it has, or begins anew without one
abbrev pub Carries : {V : Type 0} → Question V → Question V → Type 0
Carries q Unasked = Unit {0}
Carries q (Asked o) = ⊥
Carries q (Replied o) = q ≡ Replied o

-- a step that doesn't decide, before the call took effect: it goes on, asks, or is refused; it has no reply
abbrev pub Undecided : {V : Type 0} → ℕ → Kind V → Option V → Question V → Outcome V → Flight V → Type 0
Undecided {V} k kind v q Running f = (q' : Question V) × Carries q q' × (f ≡ Pending k kind v q')
Undecided k kind v q (Asks o) f = Asking kind × (f ≡ Pending k kind v (Asked o))
Undecided k kind v q (Done r) f = ⊥
Undecided k kind v q (Refused e) f = f ≡ Over
Undecided k kind v q (Found place key x) f = ⊥
Undecided k kind v q (Scanned count) f = ⊥

-- a call with a closure takes effect on an answer that the closure gave to its last question; for a key found
-- absent, a call on a present key alone wants none
abbrev pub Heeds : {V : Type 0} → Kind V → Option V → Question V → Type 0
Heeds ComputePresent None q = Unit {0}
Heeds ComputePresent (Some x) q = q ≡ Replied (Some x)
Heeds ComputeInsert found q = q ≡ Replied found
Heeds _ found q = Unit {0}

-- a step from which the call took effect on: it goes on, or is done with that very reply
abbrev pub Concludes : {V : Type 0} → Reply V → Outcome V → Flight V → Type 0
Concludes r Running f = f ≡ Decided r
Concludes r (Asks o) f = ⊥
Concludes r (Done s) f = (s ≡ r) × (f ≡ Over)
Concludes r (Refused e) f = ⊥
Concludes r (Found place key x) f = ⊥
Concludes r (Scanned count) f = ⊥

-- a step that decides: the call that began, with its closure's answer, answers its reply on the map, and leaves
-- the map after it
abbrev pub PendingMoves : {V : Type 0} → (V → V → Bool) → ℕ → Kind V → Option V → Question V → Pairs V → Bool → Outcome V → Flight V → Pairs V → Type 0
PendingMoves same k kind v q m false o f' m' = Undecided k kind v q o f' × (m' ≡ m)
PendingMoves {V} same k kind v q m true o f' m' = (c : Call V) × (r : Reply V) × IsCall k kind v (get m k) c × Heeds kind (get m k) q
    × ◌≡◌ {A = Reply V × Pairs V} (answer same m c) (r, m') × Concludes r o f'

-- a step of a scan: it goes on, tells a pair for a place, ends with pairs that it promises, or is refused
abbrev pub ScanTells : {V : Type 0} → (start end size : ℕ) → List (Pairs V) → List (ℕ × V) → Outcome V → Flight V → Type 0
ScanTells start end size states places Running f = f ≡ Scanning start end size states places
ScanTells start end size states places (Found place key x) f = (place ≤ length places) × (f ≡ Scanning start end size states (written places place (key, x)))
ScanTells start end size states places (Scanned count) f = (count ≤ length places) × IsScan start end size states (take count places) × (f ≡ Over)
ScanTells start end size states places (Refused e) f = f ≡ Over
ScanTells start end size states places (Asks o) f = ⊥
ScanTells start end size states places (Done r) f = ⊥

-- one step of one call, on the map
abbrev pub Watched : {V : Type 0} → (V → V → Bool) → Flight V → Pairs V → Option (Option V) → Move V → Flight V → Pairs V → Type 0
Watched same (Pending k kind v q) m told d f' m' = PendingMoves same k kind (value_answered kind q told v) (resolved kind q told) m d.decided d.outcome f' m'
Watched same (Decided r) m told d f' m' = (d.decided ≡ false) × Concludes r d.outcome f' × (m' ≡ m)
Watched same Over m told d f' m' = (d ≡ record { decided = false; skipped = false; outcome = Running }) × (f' ≡ Over) × (m' ≡ m)
Watched same (Unbegun start end size) m told d f' m' = (d.decided ≡ false) × ScanTells start end size (m ∷ []) [] d.outcome f' × (m' ≡ m)
Watched same (Scanning start end size states places) m told d f' m' = (d.decided ≡ false) × ScanTells start end size (m ∷ states) places d.outcome f' × (m' ≡ m)

-- one step of the calls: of one that is there, or none
abbrev pub WatchedAt : {C V : Type 0} → (V → V → Bool) → List (Flight V) → Pairs V → Option (Flight V) → Step C V → Move V → List (Flight V) → Pairs V → Type 0
WatchedAt same fs m None s d fs' m' = (d ≡ record { decided = false; skipped = false; outcome = Running }) × (fs' ≡ fs) × (m' ≡ m)
WatchedAt {C} {V} same fs m (Some f) s d fs' m' = (f' : Flight V) × Watched same f m s.noise.answer d f' m' × (fs' ≡ set fs s.who f')

-- how a machine is watched: one with a closure that confirms or changes a value has its answer
abbrev pub heeding : {V : Type 0} → Reply V → Question V
heeding (reply.ComputePresent (Some p)) = Replied (Some p.0)
heeding (reply.ComputeInsert o) = Replied o
heeding _ = Unasked

-- how a call is watched by its phase
abbrev pub flight_in : {C V : Type 0} → ℕ → Kind V → Option V → Phase C V → Flight V
flight_in k kind v (AskOld s old) = Pending k kind v (Asked (Some old))
flight_in k kind v (AskNew plan) = Pending k kind v (Asked None)
flight_in k kind v (Confirm at r) = Pending k kind v (heeding r)
flight_in k kind v (CheckAbove p one r) = Pending k kind v (heeding r)
flight_in k kind v (UpgradeHere one r) = Pending k kind v (heeding r)
flight_in k kind v (ChangeHere one r) = Pending k kind v (heeding r)
flight_in k kind v (MakeLesser s p g r) = Pending k kind v (heeding r)
flight_in k kind v (UpgradeTop g two r) = Pending k kind v (heeding r)
flight_in k kind v (UpgradeAbove two r) = Pending k kind v (heeding r)
flight_in k kind v (UpgradeBelow two r) = Pending k kind v (heeding r)
flight_in k kind v (ChangeAbove two r) = Pending k kind v (heeding r)
flight_in k kind v (Obsolete n next p r) = Decided r
flight_in k kind v (Retire n next p r) = Decided r
flight_in k kind v (UnlockBelow n p r) = Decided r
flight_in k kind v (Unlock n r) = Decided r
flight_in k kind v (Scan s) = Unbegun s.start (suc s.last) s.size
flight_in k kind v Ended = Over
flight_in k kind v _ = Pending k kind v Unasked

-- how a machine is watched
abbrev pub flight : {C V : Type 0} → Machine C V → Flight V
flight m = flight_in m.key m.kind m.given m.phase

-- how a scan is watched, by what it has settled
abbrev pub ScanFollows : {C V : Type 0} → ScanState C V → Flight V → Type 0
ScanFollows {C} {V} s f = ((f ≡ Unbegun s.start (suc s.last) s.size) × (s.stage ≡ stage.New)) ⊎ (((f ≡ Over) × (s.stage ≡ stage.Over))
    ⊎ ((states : List (Pairs V)) × (places : List (ℕ × V)) × (f ≡ Scanning s.start (suc s.last) s.size states places) × Tracks s states places))

-- what is watched is a call on one key
abbrev pub IsOfPoint : {V : Type 0} → Flight V → Type 0
IsOfPoint (Pending k kind v q) = Unit {0}
IsOfPoint (Decided r) = Unit {0}
IsOfPoint Over = Unit {0}
IsOfPoint (Unbegun start end size) = ⊥
IsOfPoint (Scanning start end size states places) = ⊥

-- a scan before its begin, which promises what one of this range does
pub record IsScanOf {V : Type 0} (start end size : ℕ) (f : Flight V) : Type 0 where
  pub from : ℕ
  pub to : ℕ
  pub places : ℕ
  pub unbegun : f ≡ Unbegun from to places
  pub promises : (states : List (Pairs V)) (found : List (ℕ × V)) → IsScan from to places states found → IsScan start end size states found

-- a call that has not begun is a scan of this range, or is no scan
abbrev pub IsOfRange : {V : Type 0} → Option (ℕ × ℕ × ℕ) → Flight V → Type 0
IsOfRange None f = IsOfPoint f
IsOfRange (Some (start, end, size)) f = IsScanOf start end size f

-- what is watched of a machine, a call on one key or a scan
abbrev pub Follows : {C V : Type 0} → Machine C V → Flight V → Type 0
Follows {C} {V} m f = (IsOfPoint f × (f ≡ flight m)) ⊎ ((s : ScanState C V) × (m.phase ≡ Scan s) × ScanFollows s f)

-- so are all of them, one by one
abbrev pub Following : {C V : Type 0} → List (Machine C V) → List (Flight V) → Type 0
Following [] [] = Unit {0}
Following [] (f ∷ fs) = ⊥
Following (m ∷ ms) [] = ⊥
Following (m ∷ ms) (f ∷ fs) = Follows m f × Following ms fs

-- a tree, its lock words, and what each call knows of them
pub record EachKnown {C V : Type 0} (number : C → ℕ) (same : V → V → Bool) (always : Bool) (a : ℕ → Note) (h : ℕ → Node V) (i : ℕ) (m : Machine C V) : Type 0 where
  pub root : number m.root ≡ 0
  pub key : m.key < 2 ^ 64
  pub known : Known number same always i a h m.key (key_bytes m.key) m.kind m.given m.phase

-- calls that follow the protocol on a tree
pub record Protocol {C V : Type 0} (number : C → ℕ) (same : V → V → Bool) (always : Bool) (h : ℕ → Node V) (ms : List (Machine C V)) : Type 0 where
  pub notes : ℕ → Note
  pub tree : Tree notes h
  pub words : LockWords notes h
  pub each : (i : ℕ) (m : Machine C V) → slice_get ms i ≡ Some m → EachKnown number same always notes h i m

-- the same with notes at hand
pub record ProtocolAt {C V : Type 0} (number : C → ℕ) (same : V → V → Bool) (always : Bool) (a : ℕ → Note) (h : ℕ → Node V) (ms : List (Machine C V)) : Type 0 where
  pub tree : Tree a h
  pub words : LockWords a h
  pub each : (i : ℕ) (m : Machine C V) → slice_get ms i ≡ Some m → EachKnown number same always a h i m

-- locks and nodes are held by the calls alone that are between their steps
abbrev pub Settled : {C V : Type 0} → (C → ℕ) → (V → V → Bool) → Bool → (ℕ → Node V) → List (Machine C V) → Type 0
Settled number same always h ms = (a : ℕ → Note) × ProtocolAt number same always a h ms × Holdings number a h ms

-- a tree, and calls on its root that have not begun
pub record Begins {C V : Type 0} (number : C → ℕ) (h : ℕ → Node V) (ms : List (Machine C V)) : Type 0 where
  pub notes : ℕ → Note
  pub tree : Tree notes h
  pub words : LockWords notes h
  pub root : (i : ℕ) (m : Machine C V) → slice_get ms i ≡ Some m → number m.root ≡ 0
  pub new : (i : ℕ) (m : Machine C V) → slice_get ms i ≡ Some m → IsNew m

-- each step is the next one of its call, on what the store answers and what came to it from outside; it refuses for its
-- cause alone
abbrev pub NextAt : {C V : Type 0} → (C → ℕ) → (V → V → Bool) → Bool → ℕ → (NodeType → Refusal → Type 0) → (ℕ → Node V) → List (Machine C V) → Option (Machine C V) → Step C V → Move V → (ℕ → Node V) → List (Machine C V) → Type 0
NextAt number same always most why h ms None s d h' ms' = (d ≡ record { decided = false; skipped = false; outcome = Running }) × (h' ≡ h) × (ms' ≡ ms)
NextAt {C} {V} number same always most why h ms (Some m) s d h' ms' = (m' : Machine C V) × Stepped number same always most why m h s.noise.fail s.noise.answer m' h' d
    × IsCause why most always m.phase d.outcome × (ms' ≡ set ms s.who m')

-- such steps one after another, on nodes and map: after each of them that map stands in those nodes, and each call is watched so
abbrev pub Chain : {C V : Type 0} → (C → ℕ) → (V → V → Bool) → Bool → ℕ → ((ℕ → Node V) → NodeType → Refusal → Type 0) → (ℕ → Node V) → List (Machine C V) → List (Flight V) → Pairs V → List (Step C V) → List (Move V) → (ℕ → Node V) → List (Machine C V) → List (Flight V) → Pairs V → Type 0
Chain number same always most why h ms fs m [] [] h' ms' fs' m' = (h' ≡ h) × (ms' ≡ ms) × (fs' ≡ fs) × (m' ≡ m)
Chain number same always most why h ms fs m [] (d ∷ ds) h' ms' fs' m' = ⊥
Chain number same always most why h ms fs m (s ∷ ss) [] h' ms' fs' m' = ⊥
Chain {C} {V} number same always most why h ms fs m (s ∷ ss) (d ∷ ds) h' ms' fs' m' = (h1 : ℕ → Node V) × (ms1 : List (Machine C V)) × (fs1 : List (Flight V)) × (m1 : Pairs V) × IsMapOf h1 m1 × Following ms1 fs1
    × NextAt number same always most (why h) h ms (slice_get ms s.who) s d h1 ms1 × WatchedAt same fs m (slice_get fs s.who) s d fs1 m1 × Chain number same always most why h1 ms1 fs1 m1 ss ds h' ms' fs' m'

-- the calls answer as one map in the order of their steps, from the pairs that stood before to those that stand
-- after it
abbrev pub PlaysMap : {C V : Type 0} → (C → ℕ) → (V → V → Bool) → Bool → ℕ → ((ℕ → Node V) → NodeType → Refusal → Type 0) → (ℕ → Node V) → List (Machine C V) → List (Step C V) → List (Move V) → (ℕ → Node V) → List (Machine C V) → Type 0
PlaysMap {C} {V} number same always most why h ms steps moves h' ms' = (m : Pairs V) → IsMapOf h m → (m' : Pairs V) × (fs' : List (Flight V)) × IsMapOf h' m' × Following ms' fs' × Chain number same always most why h ms (map flight ms) m steps moves h' ms' fs' m'

-- and from the empty map, where a root stands alone
abbrev pub FromRoot : {C V : Type 0} → (C → ℕ) → (V → V → Bool) → Bool → ℕ → ((ℕ → Node V) → NodeType → Refusal → Type 0) → (ℕ → Node V) → List (Machine C V) → List (Step C V) → List (Move V) → (ℕ → Node V) → List (Machine C V) → Type 0
FromRoot {C} {V} number same always most why h ms steps moves h' ms' = (m' : Pairs V) × (fs' : List (Flight V)) × IsMapOf h' m' × Following ms' fs' × Chain number same always most why h ms (map flight ms) empty steps moves h' ms' fs' m'

-- what holds after any steps: the protocol, the map of each step, and which nodes calls hold, hand over and take out
pub record Plays {C V : Type 0} (number : C → ℕ) (same : V → V → Bool) (always : Bool) (most : ℕ) (why : (ℕ → Node V) → NodeType → Refusal → Type 0) (h : ℕ → Node V) (ms : List (Machine C V)) (steps : List (Step C V)) (moves : List (Move V))
    (h' : ℕ → Node V) (ms' : List (Machine C V)) : Type 0 where
  pub protocol : Protocol number same always h' ms'
  pub run : PlaysMap number same always most why h ms steps moves h' ms'
  pub from_root : RootAlone h → FromRoot number same always most why h ms steps moves h' ms'
  pub apart : Apart number h' ms'
  pub by : ℕ → List ℕ
  pub handing : Handing by h steps h' ms'
  pub unlinking : (a : ℕ → Note) → Tree a h → LockWords a h → Rests {V = V} number a h → Unlinking number by h steps h' ms'
  pub unlinking_fresh : FreshRoot h → Unlinking number by h steps h' ms'
  pub settled : (a : ℕ → Note) → Tree a h → LockWords a h → Rests {V = V} number a h → Settled number same always h' ms'
  pub settled_fresh : FreshRoot h → Settled number same always h' ms'

-- one step of the calls
abbrev pub StepMap : {C V : Type 0} → (V → V → Bool) → (ℕ → Node V) → List (Machine C V) → Step C V → Move V → (ℕ → Node V) → List (Machine C V) → Type 0
StepMap {C} {V} same h ms s d h' ms' = (m : Pairs V) (fs : List (Flight V)) → IsMapOf h m → Following ms fs → (m' : Pairs V) × (fs' : List (Flight V)) × IsMapOf h' m' × Following ms' fs' × WatchedAt same fs m (slice_get fs s.who) s d fs' m'

-- the step of a call that is there: what it does, what it keeps, where its names come from, and why it refuses
pub record IsMoved {C V : Type 0} (number : C → ℕ) (same : V → V → Bool) (always : Bool) (most : ℕ) (why : NodeType → Refusal → Type 0) (h : ℕ → Node V) (ms : List (Machine C V)) (m : Machine C V) (s : Step C V) (d : Move V)
    (h' : ℕ → Node V) (ms' : List (Machine C V)) : Type 0 where
  pub now : Machine C V
  pub calls : ms' ≡ set ms s.who now
  pub step : Stepped number same always most why m h s.noise.fail s.noise.answer now h' d
  pub keeps : KeepsProtocol number same always m h now h' d
  pub origin : KeepsOrigin number same always m h now h'
  pub cause : IsCause why most always m.phase d.outcome

-- what holds after one step, and what that step was
pub record StepPlays {C V : Type 0} (number : C → ℕ) (same : V → V → Bool) (always : Bool) (most : ℕ) (why : NodeType → Refusal → Type 0) (h : ℕ → Node V) (ms : List (Machine C V)) (s : Step C V) (d : Move V)
    (h' : ℕ → Node V) (ms' : List (Machine C V)) : Type 0 where
  pub protocol : Protocol number same always h' ms'
  pub next : NextAt number same always most why h ms (slice_get ms s.who) s d h' ms'
  pub moved : (m : Machine C V) → slice_get ms s.who ≡ Some m → IsMoved number same always most why h ms m s d h' ms'
  pub watched : StepMap same h ms s d h' ms'
  pub hands : StepHands number h ms s.who h' ms'
  pub untouched : Untouched h h'
  pub takes : (a : ℕ → Note) → ProtocolAt number same always a h ms → Holdings number a h ms → StepTakes number h ms s.who h' ms' hands
  pub settled : (a : ℕ → Note) → ProtocolAt number same always a h ms → Holdings number a h ms → Settled number same always h' ms'
