use Rattle.std.proofs.Common.{refl}
use Rattle.congee.specs.owned.ValueRoom.{values_fits}
use Rattle.congee.specs.owned.Values.{node_with}
use Rattle.congee.proofs.lemmas.owned.Keeping.{absent_at, insert_held, inserted, room_at}
use Rattle.congee.proofs.owned.leaf_node.LeafNode.insert.Goals as goal

pub insert-requires : goal.insert-requires
insert-requires g c = (values_fits g.row.P-Kept g.met.P.Kept.Small.small, (absent_at g.P.Stored.value_in c.self.inside.prefix c.self.inside.values c.args.self.now c.self.view_is c.args.byte c.requires.absent, room_at g.P.Stored.value_in c.self.inside.prefix c.self.inside.values c.args.self.now c.self.view_is c.requires.room))

pub invariant_of-self : goal.invariant_of-self
invariant_of-self g c = insert_held g.P.Stored.value_in c.self.inside.values c.insert.new.self c.args.byte c.keep.result c.args.value c.keep.ensures c.insert.ensures.kept c.self.invariant

pub returns : goal.returns
returns g c = inserted g.P.Stored.value_in c.self.inside.prefix c.self.inside.values c.args.self.now c.self.view_is c.insert.new.self (node_with g.P.Stored.value_in c.self.inside.prefix c.insert.new.self) refl c.args.byte c.keep.result c.args.value c.keep.ensures c.insert.ensures
