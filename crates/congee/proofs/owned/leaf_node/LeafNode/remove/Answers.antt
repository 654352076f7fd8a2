use Rattle.std.proofs.Common.{refl}
use Rattle.congee.specs.owned.ValueRoom.{values_fits}
use Rattle.congee.specs.owned.Values.{node_with}
use Rattle.congee.proofs.lemmas.owned.Keeping.{held_at, present_at, remove_held, removed, value_at}
use Rattle.congee.proofs.owned.leaf_node.LeafNode.remove.Goals as goal

pub remove-requires : goal.remove-requires
remove-requires g c = (values_fits g.row.P-Kept g.met.P.Kept.Small.small, present_at g.P.Stored.value_in c.self.inside.prefix c.self.inside.values c.args.self.now c.self.view_is c.args.byte c.requires.present)

pub give-requires : goal.give-requires
give-requires g c = held_at g.P.Stored.value_in c.self.inside.values c.self.invariant c.args.byte c.remove.result c.remove.ensures.before

pub invariant_of-self : goal.invariant_of-self
invariant_of-self g c = remove_held g.P.Stored.value_in c.self.inside.values c.remove.new.self c.args.byte c.remove.ensures.after.kept c.self.invariant

pub returns-clause-before : goal.returns-clause-before
returns-clause-before g c = value_at g.P.Stored.value_in c.self.inside.prefix c.self.inside.values c.args.self.now c.self.view_is c.args.byte c.remove.result c.give.result c.give.ensures c.remove.ensures.before

pub returns-clause-after : goal.returns-clause-after
returns-clause-after g c = removed g.P.Stored.value_in c.self.inside.prefix c.self.inside.values c.args.self.now c.self.view_is c.remove.new.self (node_with g.P.Stored.value_in c.self.inside.prefix c.remove.new.self) refl c.args.byte c.remove.ensures.after
