use Rattle.std.proofs.Common.{◌-◌, suc, length}
use Rattle.joint.specs.nodes.Nodes.{nodes}
use Rattle.joint.specs.nodes.View.{id_number}
use Rattle.joint.proofs.lemmas.nodes.LastWalks.{NoneYet}
use Rattle.joint.proofs.nodes.Nodes.+last_below.Given as goal

abbrev pub decreases-last_below : goal.decreases-last_below
decreases-last_below g l = 8 - length (nodes l.self.now (id_number l.at)).prefix

abbrev pub invariant-loop-byte : goal.invariant-loop-byte
invariant-loop-byte g l = NoneYet (nodes l.fn.self) (id_number l.fn.at) l.region (suc l.fn.last) l.end

abbrev pub decreases-loop-byte : goal.decreases-loop-byte
decreases-loop-byte g l = l.end
