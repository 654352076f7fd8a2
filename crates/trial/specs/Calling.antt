-- The steps that a line takes of a worker's call.
use Rattle.std.specs.Prelude.{◌≡◌, ℕ, ◌-◌, suc, Bool, true, false, nat_eq, [], Option, None, replicate, slice_set, if◌then◌else◌}
use Rattle.joint.specs.declared.steps.Event.{Event}
use Rattle.joint.specs.declared.steps.Event.TheVariants.{Register, Begin, Go}
use Rattle.joint.specs.declared.steps.Op.{Op}
use Rattle.joint.specs.declared.steps.Outcome.{Outcome}
use Rattle.joint.specs.declared.steps.Report.{Report}
use Rattle.joint.specs.Reports.{is_in_flight}
use Rattle.joint.specs.world.World.{IsStep}
use Rattle.joint.specs.engine.Engine.{World}
use Rattle.trial.specs.declared.caller.Closure.{Closure}
use Rattle.trial.specs.declared.open_tree.OpenTree.{OpenTree}
use Rattle.trial.specs.Callers.{fresh, noise_of, after_step, caller_at}
use Rattle.trial.specs.Places.{filled}

-- a tree none of whose workers has a call
pub record IsUncalled (w : World ℕ) (index : OpenTree) : Type 0 where
  pub world : index.world ≡ w
  pub callers : index.callers.items ≡ replicate 256 (fresh None)
  pub scans : index.scans.items ≡ replicate 256 []

-- one step of the tree, and how it left the worker's call
abbrev pub Steps : OpenTree → ℕ → Event ℕ → Outcome ℕ → OpenTree → Type 0
Steps old who event told new = (report : Report ℕ) × IsStep nat_eq true old.world (record { worker = who; event = event }) report new.world × (told ≡ report.outcome)

-- a worker takes a place
abbrev pub Registers : OpenTree → Outcome ℕ → OpenTree → Type 0
Registers old told new = Steps old 0 Register told new × (new.callers ≡ old.callers) × (new.scans ≡ old.scans)

-- a call's first step; from it on, where it is in flight, its closure is the line's, and a scan has filled no place
abbrev pub Begins : OpenTree → ℕ → Op ℕ → Option Closure → Outcome ℕ → OpenTree → Type 0
Begins old who op closure told new = Steps old who (Begin op) told new
    × (new.callers.items ≡ (if is_in_flight told then slice_set old.callers.items who (fresh closure) else old.callers.items))
    × (new.scans.items ≡ (if is_in_flight told then slice_set old.scans.items who [] else old.scans.items))

-- a further step; where it asks, its closure has answered when the next one comes, and where it tells a pair, that stands
-- in its place
abbrev pub Goes : OpenTree → ℕ → Bool → Outcome ℕ → OpenTree → Type 0
Goes old who fail told new = Steps old who (Go (noise_of (caller_at old.callers.items who) fail)) told new
    × (new.callers.items ≡ slice_set old.callers.items who (after_step (caller_at old.callers.items who) told)) × (new.scans.items ≡ filled old.scans.items who told)

-- further steps of a call that stands so, none of which fails: so many are left, and fewer are taken where the call ends
pub data GoesOn (who : ℕ) : ℕ → OpenTree → Outcome ℕ → Outcome ℕ → OpenTree → Type 0 where
  stays : (s : OpenTree) (told : Outcome ℕ) → GoesOn who 0 s told told s
  ends : (left : ℕ) (s : OpenTree) (told : Outcome ℕ) → is_in_flight told ≡ false → GoesOn who left s told told s
  goes : (left : ℕ) (s mid s' : OpenTree) (stands next told : Outcome ℕ) → is_in_flight stands ≡ true → Goes s who false next mid
      → GoesOn who left mid next told s' → GoesOn who (suc left) s stands told s'

-- the most steps that a line takes of a call which it doesn't begin alone, the first of them counted
abbrev pub steps_max : ℕ
steps_max = 10000

-- a whole call, or as many of its steps as a line takes
abbrev pub Calls : OpenTree → ℕ → Op ℕ → Option Closure → Outcome ℕ → OpenTree → Type 0
Calls old who op closure told new = (mid : OpenTree) × (first : Outcome ℕ) × Begins old who op closure first mid × GoesOn who (steps_max - 1) mid first told new
