-- What a call leaves at its end, and why one that only reads is refused.
use Rattle.std.specs.Prelude.{◌≡◌, ℕ, ◌⊎◌, Bool, true, false, List, [], ◌∷◌, None, Some, slice_get}
use Rattle.crossbeam_epoch.specs.declared.fault.Fault.{Fault}
use Rattle.congee.specs.declared.protocol.machine.Machine.{Machine}
use Rattle.congee.specs.protocol.Holdings.{LockedBy}
use Rattle.joint.specs.declared.id.Id.{Id}
use Rattle.joint.specs.declared.refusal.Refusal.{Refusal}
use Rattle.joint.specs.declared.refusal.Refusal.TheVariants.{Count}
use Rattle.joint.specs.declared.steps.Event.TheVariants.{Begin}
use Rattle.joint.specs.declared.steps.Op.{Op}
use Rattle.joint.specs.declared.steps.Op.TheVariants.{Pin, Get, Range, RangeInclusive, IsEmpty}
use Rattle.joint.specs.declared.steps.Outcome.TheVariants.{Refused}
use Rattle.joint.specs.declared.steps.Step.{Step}
use Rattle.joint.specs.engine.Log.{request_at}
use Rattle.joint.specs.Refusals.{of_fault}
use Rattle.joint.specs.calls.Runs.{Taken}
use Rattle.joint.specs.nodes.View.{id_number}
use Rattle.joint.specs.world.Whereabouts.{IsTakenBy}
use Rattle.joint.specs.engine.Engine.{World, IsHeldBy, IsOfCall, is_busy, misuse}
use Rattle.joint.specs.Reports.{is_in_flight}

-- the worker's call holds the lock of the node
abbrev pub HoldsLock : {V : Type 0} → World V → ℕ → ℕ → Type 0
HoldsLock {V} s who n = (m : Machine Id V) × (slice_get s.machines who ≡ Some m) × LockedBy id_number m.phase n

-- the worker stands between calls: it has none in flight, holds no lock, has no node that it made, and owes none that it took
-- out of the tree
pub record IsBetween {V : Type 0} (s : World V) (who : ℕ) : Type 0 where
  pub idle : is_busy (slice_get s.calls who) ≡ false
  pub unlocked : (n : ℕ) → HoldsLock s who n → ⊥
  pub unmade : (n : ℕ) → IsHeldBy s who n → ⊥
  pub unowed : (n : ℕ) → IsTakenBy s who n → ⊥

-- the step is misused, and refused for that
pub record IsMisused {V : Type 0} (s : World V) (step : Step V) (e : Refusal) : Type 0 where
  pub fault : Fault
  pub misuse : misuse s step.worker step.event ≡ Some fault
  pub cause : e ≡ of_fault fault

-- a step after which its worker's call is over leaves the worker between calls
abbrev pub LeavesBetween : {V : Type 0} → World V → Taken V → Type 0
LeavesBetween s t = IsOfCall t.step.event → misuse s t.step.worker t.step.event ≡ None → is_in_flight t.report.outcome ≡ false → IsBetween t.after t.step.worker

-- and one that is misused leaves nodes and calls as they were
abbrev pub LeavesAll : {V : Type 0} → World V → Taken V → Type 0
LeavesAll {V} s t = (f : Fault) → misuse s t.step.worker t.step.event ≡ Some f
    → (t.report.outcome ≡ Refused (of_fault f)) × (t.after.forest ≡ s.forest) × (t.after.machines ≡ s.machines) × (t.after.calls ≡ s.calls)

-- each step of a run does
abbrev pub AllEndWell : {V : Type 0} → World V → List (Taken V) → Type 0
AllEndWell s [] = Unit {0}
AllEndWell s (t ∷ ts) = (LeavesBetween s t × LeavesAll s t) × AllEndWell t.after ts

-- of a worker that has no call in flight nothing is written down as asked
abbrev pub IdleUnasked : {V : Type 0} → World V → Type 0
IdleUnasked s = (i : ℕ) → is_busy (slice_get s.calls i) ≡ false → request_at s.log.requests i ≡ None

-- a call that can be refused for misuse or as Count alone
abbrev pub is_reading : {V : Type 0} → Op V → Bool
is_reading Pin = true
is_reading (Get k) = true
is_reading (Range start end size) = true
is_reading (RangeInclusive start last size) = true
is_reading IsEmpty = true
is_reading _ = false

-- if the step is refused, then for misuse or as Count
abbrev pub RefusesReader : {V : Type 0} → World V → Taken V → Type 0
RefusesReader s t = (e : Refusal) → t.report.outcome ≡ Refused e → IsMisused s t.step e ⊎ (e ≡ Count)

-- so it is with each step of a worker's calls until it has none in flight
abbrev pub AllRefuseReader : {V : Type 0} → ℕ → World V → List (Taken V) → Type 0
AllRefuseReader who s [] = Unit {0}
AllRefuseReader who s (t ∷ ts) = (t.step.worker ≡ who → IsOfCall t.step.event → RefusesReader s t) × (is_busy (slice_get t.after.calls who) ≡ true → AllRefuseReader who t.after ts)

-- a step that begins a reading call, and those after it to the call's end
abbrev pub RefusedRightly : {V : Type 0} → World V → Taken V → List (Taken V) → Type 0
RefusedRightly {V} s t ts = (op : Op V) → t.step.event ≡ Begin op → is_reading op ≡ true
    → RefusesReader s t × (is_in_flight t.report.outcome ≡ true → AllRefuseReader t.step.worker t.after ts)

-- each step of a run that begins one
abbrev pub ReadersRefused : {V : Type 0} → World V → List (Taken V) → Type 0
ReadersRefused s [] = Unit {0}
ReadersRefused s (t ∷ ts) = RefusedRightly s t ts × ReadersRefused t.after ts
