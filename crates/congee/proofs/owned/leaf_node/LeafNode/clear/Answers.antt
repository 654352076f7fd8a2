use Rattle.std.proofs.Common.{refl}
use Rattle.congee.specs.owned.Values.{node_with}
use Rattle.congee.proofs.lemmas.owned.Keeping.{bare_held, cleared}
use Rattle.congee.proofs.owned.leaf_node.LeafNode.clear.Goals as goal

pub invariant_of-self : goal.invariant_of-self
invariant_of-self g c = bare_held g.P.Stored.value_in c.clear.new.self c.clear.ensures.kept

pub returns : goal.returns
returns g c = cleared g.P.Stored.value_in c.self.inside.prefix c.self.inside.values c.args.self.now c.self.view_is c.clear.new.self (node_with g.P.Stored.value_in c.self.inside.prefix c.clear.new.self) refl c.clear.ensures
