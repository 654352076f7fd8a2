-- A run whose reports come behind those of a list.
use Rattle.std.specs.Prelude.{◌≡◌, ◌++◌, Bool, List}
use Rattle.joint.specs.declared.steps.Report.{Report}
use Rattle.joint.specs.declared.steps.Step.{Step}
use Rattle.joint.specs.calls.Runs.{IsRun}
use Rattle.joint.specs.engine.Engine.{World}

-- these steps were taken, and their reports stand behind those that were there before
abbrev pub IsRunInto : {V : Type 0} → (V → V → Bool) → Bool → World V → List (Step V) → List (Report V) → List (Report V) → World V → Type 0
IsRunInto {V} same always s steps before after s' = (reports : List (Report V)) × IsRun same always s steps reports s' × (after ≡ before ++ reports)
