use Rattle.std.proofs.Common.{◌-◌, length}
use Rattle.joint.specs.nodes.Nodes.{nodes}
use Rattle.joint.specs.nodes.View.{id_number}
use Rattle.joint.proofs.lemmas.nodes.KeyWalks.{PutSoFar}
use Rattle.joint.proofs.nodes.Nodes.+keys_below.Given as goal

abbrev pub decreases-keys_below : goal.decreases-keys_below
decreases-keys_below g l = 8 - length (nodes l.self.now (id_number l.at)).prefix

abbrev pub invariant-loop-byte : goal.invariant-loop-byte
invariant-loop-byte g l = PutSoFar (nodes l.fn.self) (id_number l.fn.at) l.region l.from l.fn.keys.items l.keys.items

abbrev pub decreases-loop-byte : goal.decreases-loop-byte
decreases-loop-byte g l = 256 - l.from
