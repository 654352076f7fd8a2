use Rattle.std.proofs.Common.{◌-◌}
use Rattle.joint.proofs.lemmas.nodes.Copying.{IsCopying}
use Rattle.joint.proofs.nodes.slot.copy_names.Given as goal

abbrev pub invariant-loop-byte : goal.invariant-loop-byte
invariant-loop-byte g l = IsCopying l.node l.fn.other l.other l.from

abbrev pub decreases-loop-byte : goal.decreases-loop-byte
decreases-loop-byte g l = 256 - l.from
