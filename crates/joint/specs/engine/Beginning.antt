-- A call begins, by the layer that it is of, or is refused for its first cause.
use Rattle.std.specs.Prelude.{◌≡◌, ℕ, Bool, Option, None, Some, slice_get}
use Rattle.crossbeam_epoch.specs.declared.fault.Fault.{Fault}
use Rattle.joint.specs.declared.steps.Outcome.TheVariants.{Refused}
use Rattle.joint.specs.declared.steps.Report.{Report}
use Rattle.joint.specs.declared.steps.Target.{Target}
use Rattle.joint.specs.Refusals.{of_fault}
use Rattle.joint.specs.engine.Engine.{World, place_of, begin_misuse, kind_of, quiet, BeginsAt}

-- a call begins unless there is a cause against it
abbrev pub BeginsUnless : {V : Type 0} → (V → V → Bool) → Bool → World V → ℕ → Target V → Option Fault → Report V → World V → Type 0
BeginsUnless same always s who t (Some f) r s' = (r ≡ quiet (kind_of t) (Refused (of_fault f))) × (s' ≡ s)
BeginsUnless same always s who t None r s' = BeginsAt same always s who t r s'

-- a call begins, or is refused for its first cause
abbrev pub Begun : {V : Type 0} → (V → V → Bool) → Bool → World V → ℕ → Target V → Report V → World V → Type 0
Begun same always s who t r s' = BeginsUnless same always s who t (begin_misuse t (slice_get s.calls who) (place_of s who)) r s'
