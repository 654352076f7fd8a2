-- What a step makes of the jobs and the cells, and how a call goes on to its end.
use Rattle.std.specs.Prelude.{◌≡◌, ◌≢◌, ℕ, ◌+◌, ◌-◌, ◌*◌, ◌==◌, ◌≤◌, ◌<◌, Bool, true, false, length, Option, Some, None, is_some, if◌then◌else◌}
use Rattle.std.specs.List.{Contains}
use Rattle.crossbeam_epoch.specs.declared.bag.Deferral.{Deferral}
use Rattle.crossbeam_epoch.specs.declared.fault.Fault.{Fault}
use Rattle.crossbeam_epoch.specs.declared.fault.Fault.TheVariants.{Memory, Unknown}
use Rattle.crossbeam_epoch.specs.declared.names.Name.{Name}
use Rattle.crossbeam_epoch.specs.declared.world.participant.Participant.{Participant}
use Rattle.crossbeam_epoch.specs.declared.world.participant.Phase.{Phase}
use Rattle.crossbeam_epoch.specs.declared.world.participant.Phase.TheVariants as P
use Rattle.crossbeam_epoch.specs.declared.bag.Sealed.{Sealed}
use Rattle.crossbeam_epoch.specs.declared.world.report.Op.{Op}
use Rattle.crossbeam_epoch.specs.declared.world.report.Op.TheVariants.{Pin, Unpin, Repin, Flush, Release, Secure}
use Rattle.crossbeam_epoch.specs.declared.world.report.Outcome.{Outcome}
use Rattle.crossbeam_epoch.specs.declared.world.report.Outcome.TheVariants.{Running, Done, Refused}
use Rattle.crossbeam_epoch.specs.world.Fits.{HandFits, weight}
use Rattle.crossbeam_epoch.specs.world.Machine.{State, place, after_work}
use Rattle.crossbeam_epoch.specs.world.Steps.{called_entry, begin_fault}
use Rattle.crossbeam_epoch.specs.world.Store.{Store, value_at, emptied}
use Rattle.crossbeam_epoch.specs.Limits.{bag_places, most_bags}

-- what holds of a collector between any two steps: only a collection that calls has jobs in hand, and no bag has more than 64
pub record Orderly {T J : Type 0} (s : State T J) : Type 0 where
  pub hands : (q : ℕ) → HandFits (place s q).phase (place s q).hand
  pub bags : (q : ℕ) → length (place s q).bag ≤ bag_places
  pub held : (q : ℕ) → length (place s q).hand ≤ bag_places
  pub sealed : (b : Sealed J) → Contains s.queue b → length b.jobs ≤ bag_places

-- no job was called and every job stands as before, or this one was called, and stands no longer
abbrev pub JobsAfter : {T J : Type 0} → State T J → Option (ℕ × Option Name) → State T J → Type 0
JobsAfter s None s' = (s'.store ≡ s.store) × (s'.waiting ≡ s.waiting) × ((f : Deferral _ → ℕ) → weight f s' ≡ weight f s)
JobsAfter s (Some c) s' = (e : Deferral _) × (c ≡ called_entry s.store e) × (s'.store ≡ after_work s.store e.work) × (s'.waiting ≡ s.waiting - 1) × ((f : Deferral _ → ℕ) → weight f s' + f e ≡ weight f s)

-- the cell that a called job told was emptied, and no other
abbrev pub EmptiesAt : {T : Type 0} → Store T → Option Name → Store T → Type 0
EmptiesAt st None st' = st' ≡ st
EmptiesAt st (Some n) st' = (is_some (value_at st n) ≡ true) × (st' ≡ emptied st n.cell)

-- the same of a step that called this job, or none
abbrev pub Empties : {T : Type 0} → Store T → Option (ℕ × Option Name) → Store T → Type 0
Empties st None st' = st' ≡ st
Empties st (Some c) st' = EmptiesAt st c.1 st'

-- one participant took a step, which called this job
pub record Moves {T J : Type 0} (s : State T J) (who : ℕ) (c : Option (ℕ × Option Name)) (s' : State T J) : Type 0 where
  pub orderly : Orderly s'
  pub jobs : JobsAfter s c s'
  pub cells : Empties s.store c s'.store
  pub roots : s'.roots ≡ s.roots
  pub limits : s'.limits ≡ s.limits
  pub table : length s'.table ≡ length s.table
  pub others : (q : ℕ) → q ≢ who → place s' q ≡ place s q
  pub next : s'.next ≡ s.next

-- what a call is about between two of its steps
pub data Stage : Type 0 where
  Resting : Stage
  Pinning : Stage
  Repinning : Stage
  Flushing : Stage
  Releasing : Stage
  Securing : (n : Option ℕ) → Stage
  Collecting : Stage

-- what a call in this phase is about
abbrev pub stage : Phase → Stage
stage P.Idle = Resting
stage P.Look = Pinning
stage (P.Publish seen) = Pinning
stage P.RepinLook = Repinning
stage (P.RepinPublish seen) = Repinning
stage P.Seal = Flushing
stage (P.Queue seal) = Flushing
stage P.ReleaseSeal = Releasing
stage (P.ReleaseQueue seal) = Releasing
stage (P.Secure n) = Securing (Some n)
stage P.SecureSeal = Securing None
stage (P.SecureQueue seal) = Securing None
stage P.Load = Collecting
stage (P.Inspect seen at) = Collecting
stage (P.Advance seen) = Collecting
stage (P.Take answered bags) = Collecting
stage (P.Call answered bags seal) = Collecting

-- whether a number of places is the one that is known, if one is
abbrev pub is_places : ℕ → Option ℕ → Bool
is_places n None = true
is_places n (Some m) = m == n

-- whether a call comes through such a stage
abbrev pub comes_by : Stage → Op → Bool
comes_by Resting op = false
comes_by Pinning Pin = true
comes_by Pinning _ = false
comes_by Repinning Repin = true
comes_by Repinning _ = false
comes_by Flushing Flush = true
comes_by Flushing _ = false
comes_by Releasing Release = true
comes_by Releasing _ = false
comes_by (Securing m) (Secure n) = is_places n m
comes_by (Securing m) _ = false
comes_by Collecting Pin = true
comes_by Collecting Flush = true
comes_by Collecting _ = false

-- the call of a registered participant is in flight
abbrev pub IsOn : {J : Type 0} → Op → Participant J → Type 0
IsOn op p = (p.registered ≡ true) × (comes_by (stage p.phase) op ≡ true)

-- whether a collection goes on
abbrev pub collects : Phase → Bool
collects P.Load = true
collects (P.Inspect seen at) = true
collects (P.Advance seen) = true
collects (P.Take answered bags) = true
collects (P.Call answered bags seal) = true
collects _ = false

-- a securing leaves the participant's pin, and at its end so many places are free
abbrev pub Secures : {J : Type 0} → Op → Participant J → Participant J → Type 0
Secures (Secure n) p p' = (p'.word ≡ p.word) × (p'.registered ≡ p.registered) × (p'.phase ≡ P.Idle → n ≤ bag_places → length p'.bag + n ≤ bag_places)
Secures _ p p' = Unit {0}

-- steps that a collection takes at most, once it has taken so many bags
abbrev pub left_after : ℕ → ℕ
left_after bags = 1 + 65 * (most_bags - bags)

-- steps that a call takes at most from here on, in a table of so many places, with so many jobs in hand
abbrev pub left_in : ℕ → Phase → ℕ → ℕ
left_in places P.Idle hand = 0
left_in places P.Look hand = places + 526
left_in places (P.Publish seen) hand = places + 525
left_in places P.RepinLook hand = 2
left_in places (P.RepinPublish seen) hand = 1
left_in places P.Seal hand = places + 526
left_in places (P.Queue seal) hand = places + 525
left_in places P.ReleaseSeal hand = 2
left_in places (P.ReleaseQueue seal) hand = 1
left_in places (P.Secure n) hand = 3
left_in places P.SecureSeal hand = 2
left_in places (P.SecureQueue seal) hand = 1
left_in places P.Load hand = places + 524
left_in places (P.Inspect seen at) hand = (places - at) + 523
left_in places (P.Advance seen) hand = 522
left_in places (P.Take answered bags) hand = left_after bags
left_in places (P.Call answered bags seal) hand = hand + left_after bags

-- the same of a participant's call
abbrev pub steps_left : {T J : Type 0} → State T J → ℕ → ℕ
steps_left s who = left_in (length s.table) (place s who).phase (length (place s who).hand)

-- why a participant without a call in flight can't begin this one
abbrev pub refusal : {T J : Type 0} → State T J → ℕ → Op → Option Fault
refusal s who op = if (place s who).registered then begin_fault op (place s who) else Some Unknown

-- a call of a participant without a call in flight begins, or is refused for its first cause and changes nothing
abbrev pub Begins : {T J : Type 0} → State T J → ℕ → Op → Outcome → State T J → Type 0
Begins s who op (Refused f) s' = (refusal s who op ≡ Some f) × (s' ≡ s)
Begins s who op Done s' = (refusal s who op ≡ None) × ((place s' who).phase ≡ P.Idle)
Begins s who op Running s' = (refusal s who op ≡ None) × IsOn op (place s' who) × (steps_left s' who ≤ length s.table + 526) × Secures op (place s who) (place s' who)

-- only these calls queue a bag of their own
abbrev pub queues : Op → Bool
queues Pin = false
queues Unpin = false
queues Repin = false
queues Flush = true
queues Release = true
queues (Secure n) = true

-- a call in flight goes on, ends, or finds no memory for its bag before any collection, and does nothing more
abbrev pub GoesOn : {T J : Type 0} → State T J → ℕ → Op → Outcome → State T J → Type 0
GoesOn s who op (Refused f) s' = (f ≡ Memory) × (queues op ≡ true) × ((place s' who).phase ≡ P.Idle) × (collects (place s who).phase ≡ false)
GoesOn s who op Done s' = ((place s' who).phase ≡ P.Idle) × Secures op (place s who) (place s' who)
GoesOn s who op Running s' = IsOn op (place s' who) × (steps_left s' who < steps_left s who) × Secures op (place s who) (place s' who)
    × (collects (place s who).phase ≡ true → collects (place s' who).phase ≡ true)

-- a collector without calls in flight
pub record IsResting {T J : Type 0} (s : State T J) : Type 0 where
  pub orderly : Orderly s
  pub idle : (q : ℕ) → (place s q).phase ≡ P.Idle

-- a collector whose calls and cells stand as in another, and whose jobs stand as there but for these
pub record KeepsCalls {T J : Type 0} (s s' : State T J) (more : (Deferral J → ℕ) → ℕ) : Type 0 where
  pub orderly : Orderly s'
  pub phases : (q : ℕ) → (place s' q).phase ≡ (place s q).phase
  -- a call in flight stays so
  pub on : (q : ℕ) (op : Op) → IsOn op (place s q) → IsOn op (place s' q)
  pub jobs : (f : Deferral J → ℕ) → weight f s' ≡ weight f s + more f
  pub store : s'.store ≡ s.store
