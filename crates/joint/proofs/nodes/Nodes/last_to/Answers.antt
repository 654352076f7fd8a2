use Rattle.std.proofs.Common.{rules, suc, arith}
use Rattle.joint.specs.nodes.Nodes.{nodes}
use Rattle.joint.proofs.lemmas.nodes.LastWalks.{last_of_all}
use Rattle.joint.proofs.nodes.Nodes.last_to.Goals as goal

pub last_below-requires : goal.last_below-requires
last_below-requires g c = rw c.root.ensures (search rules)

pub returns : goal.returns
returns g c m st = last_of_all (nodes c.args.self.now) c.requires (suc c.args.last) (omega arith) _ (rw c.root.ensures at c.last_below.ensures) m st
