use Rattle.std.proofs.Common.{◌-◌, length}
use Rattle.joint.specs.nodes.Nodes.{nodes}
use Rattle.joint.specs.nodes.View.{id_number}
use Rattle.joint.proofs.lemmas.nodes.FirstWalks.{NoneSoFar}
use Rattle.joint.proofs.nodes.Nodes.+first_below.Given as goal

abbrev pub decreases-first_below : goal.decreases-first_below
decreases-first_below g l = 8 - length (nodes l.self.now (id_number l.at)).prefix

abbrev pub invariant-loop-byte : goal.invariant-loop-byte
invariant-loop-byte g l = NoneSoFar (nodes l.fn.self) (id_number l.fn.at) l.region l.fn.from l.start

abbrev pub decreases-loop-byte : goal.decreases-loop-byte
decreases-loop-byte g l = 256 - l.start
