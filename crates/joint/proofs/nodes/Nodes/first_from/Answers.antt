use Rattle.std.proofs.Common.{rules}
use Rattle.joint.specs.nodes.Nodes.{nodes}
use Rattle.joint.proofs.lemmas.nodes.FirstWalks.{first_of_all}
use Rattle.joint.proofs.nodes.Nodes.first_from.Goals as goal

pub first_below-requires : goal.first_below-requires
first_below-requires g c = rw c.root.ensures (search rules)

pub returns : goal.returns
returns g c m st = first_of_all (nodes c.args.self.now) c.requires c.args.from _ (rw c.root.ensures at c.first_below.ensures) m st
