use Rattle.std.proofs.Common.{◌-◌}
use Rattle.congee.proofs.lemmas.forms.MoveLemmas.{IsPouring}
use Rattle.congee.proofs.forms.base_node.Node.pour_into.Given as goal

abbrev pub invariant-loop-first : goal.invariant-loop-first
invariant-loop-first g l = IsPouring l.fn.self l.fn.other l.self l.other l.from

abbrev pub decreases-loop-first : goal.decreases-loop-first
decreases-loop-first g l = 256 - l.from
