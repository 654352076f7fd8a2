use Rattle.std.proofs.Common.{refl}
use Rattle.congee.specs.owned.ValueRoom.{values_fits}
use Rattle.congee.specs.owned.Values.{node_with}
use Rattle.congee.proofs.lemmas.owned.Keeping.{held_at, insert_held, inserted, present_at, value_at}
use Rattle.congee.proofs.owned.leaf_node.LeafNode.change.Goals as goal

pub change-requires : goal.change-requires
change-requires g c = (values_fits g.row.P-Kept g.met.P.Kept.Small.small, present_at g.P.Stored.value_in c.self.inside.prefix c.self.inside.values c.args.self.now c.self.view_is c.args.byte c.requires.present)

pub give-requires : goal.give-requires
give-requires g c = held_at g.P.Stored.value_in c.self.inside.values c.self.invariant c.args.byte c.change.result c.change.ensures.before

pub invariant_of-self : goal.invariant_of-self
invariant_of-self g c = insert_held g.P.Stored.value_in c.self.inside.values c.change.new.self c.args.byte c.keep.result c.args.value c.keep.ensures c.change.ensures.after.kept c.self.invariant

pub returns-clause-before : goal.returns-clause-before
returns-clause-before g c = value_at g.P.Stored.value_in c.self.inside.prefix c.self.inside.values c.args.self.now c.self.view_is c.args.byte c.change.result c.give.result c.give.ensures c.change.ensures.before

pub returns-clause-after : goal.returns-clause-after
returns-clause-after g c = inserted g.P.Stored.value_in c.self.inside.prefix c.self.inside.values c.args.self.now c.self.view_is c.change.new.self (node_with g.P.Stored.value_in c.self.inside.prefix c.change.new.self) refl c.args.byte c.keep.result c.args.value c.keep.ensures c.change.ensures.after
