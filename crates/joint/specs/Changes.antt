-- What a call asks of the machine.
use Rattle.std.specs.Prelude.{Bool, true, false}
use Rattle.joint.specs.declared.steps.Op.{Op}
use Rattle.joint.specs.declared.steps.Op.TheVariants.{Insert, Remove, ComputePresent, ComputeInsert, Exchange}

-- whether a call may change what stands at its key
abbrev pub changes : {V : Type 0} → Op V → Bool
changes (Insert k v) = true
changes (Remove k) = true
changes (ComputePresent k) = true
changes (ComputeInsert k) = true
changes (Exchange k old new) = true
changes _ = false
