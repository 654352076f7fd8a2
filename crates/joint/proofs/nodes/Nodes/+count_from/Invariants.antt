use Rattle.std.proofs.Common.{◌-◌, length}
use Rattle.joint.specs.nodes.Nodes.{nodes}
use Rattle.joint.specs.nodes.View.{id_number}
use Rattle.joint.proofs.lemmas.nodes.Counting.{Counted}
use Rattle.joint.proofs.nodes.Nodes.+count_from.Given as goal

abbrev pub decreases-count_from : goal.decreases-count_from
decreases-count_from g l = 8 - length (nodes l.self.now (id_number l.at)).prefix

abbrev pub invariant-loop-byte : goal.invariant-loop-byte
invariant-loop-byte g l = Counted (nodes l.fn.self) l.fn.stats l.stats l.level (id_number l.fn.at) l.from

abbrev pub decreases-loop-byte : goal.decreases-loop-byte
decreases-loop-byte g l = 256 - l.from
