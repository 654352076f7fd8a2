use Rattle.std.proofs.Common.{◌-◌}
use Rattle.congee.proofs.lemmas.forms.MoveLemmas.{IsMoving}
use Rattle.congee.proofs.forms.base_node.Node.move_to.Given as goal

abbrev pub invariant-loop-byte : goal.invariant-loop-byte
invariant-loop-byte g l = IsMoving l.fn.self l.fn.greater l.self l.greater l.from

abbrev pub decreases-loop-byte : goal.decreases-loop-byte
decreases-loop-byte g l = 256 - l.from
