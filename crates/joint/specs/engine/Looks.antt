-- A look at the pairs that stand, which is no step: it tells the one that is looked for, or why there is none to be had.
use Rattle.std.specs.Prelude.{◌≡◌, ℕ, Bool, false, Option, None, Some, Result, Ok, Err}
use Rattle.judge.specs.Answer.{Pairs}
use Rattle.crossbeam_epoch.specs.declared.fault.Fault.{Fault}
use Rattle.joint.specs.Refusals.{of_fault}
use Rattle.joint.specs.declared.refusal.Refusal.{Refusal}
use Rattle.joint.specs.declared.refusal.Refusal.TheVariants.{Count}
use Rattle.joint.specs.declared.steps.Event.TheVariants.{Begin}
use Rattle.joint.specs.declared.steps.Op.TheVariants.{IsEmpty}
use Rattle.joint.specs.engine.Engine.{World, misuse}
use Rattle.joint.specs.engine.Standing.{pairs_of}

-- a worker may look where it may ask for emptiness; the first cause why not
abbrev pub look_fault : {V : Type 0} → World V → ℕ → Option Fault
look_fault s who = misuse s who (Begin IsEmpty)

-- the cause, if there is one; else the pair of those that stand, if there is one; or that its value can't have an owner more
abbrev pub TellsPair : {V : Type 0} → Bool → Pairs V → (Pairs V → Option (ℕ × V) → Type 0) → Option Fault → Result (Option (ℕ × V)) Refusal → Type 0
TellsPair always m is (Some f) result = result ≡ Err (of_fault f)
TellsPair always m is None (Ok found) = is m found
TellsPair {V} always m is None (Err e) = (e ≡ Count) × (always ≡ false) × ((pair : ℕ × V) × is m (Some pair))

-- a worker's look in this state
abbrev pub Looks : {V : Type 0} → Bool → World V → ℕ → (Pairs V → Option (ℕ × V) → Type 0) → Result (Option (ℕ × V)) Refusal → Type 0
Looks always s who is result = TellsPair always (pairs_of s) is (look_fault s who) result
