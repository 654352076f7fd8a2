use Rattle.congee.proofs.lemmas.owned.SlotComes.{leaves_stored, leaves_done}
use Rattle.congee.proofs.lemmas.owned.SlotLeaves.{leaf_slot}
use Rattle.congee.proofs.lemmas.owned.SlotOps.{same_view_room}
use Rattle.congee.specs.owned.EntryRoom.{entries16_fits, entries48_fits, places256_fits}
use Rattle.congee.specs.owned.ValueRoom.{values16_fits, values48_fits, values256_fits}
use Rattle.congee.proofs.owned.nodes.Nodes.remove.Goals as goal

pub remove-requires : goal.remove-requires
remove-requires g c = leaf_slot c.self.inside.slab c.args.self.now c.self.view_is c.self.inside.inline c.self.invariant c.args.at c.at.inside.slot c.at.inside.byte c.at.view_is c.at.invariant c.requires.own c.requires.stands

pub invariant_of-self : goal.invariant_of-self
invariant_of-self g c = leaves_stored c.self.inside.slab c.remove.new.self c.args.self.now c.self.view_is c.self.inside.inline c.self.invariant c.args.at c.at.inside.slot c.at.inside.byte c.at.view_is c.at.invariant c.requires.own c.requires.stands c.requires.leaf c.remove.ensures.updates c.remove.ensures.capacity c.remove.ensures.len

pub returns : goal.returns
returns g c = record {
  gone = leaves_done c.self.inside.slab c.remove.new.self c.args.self.now c.self.view_is c.self.inside.inline c.self.invariant c.args.at c.at.inside.slot c.at.inside.byte c.at.view_is c.at.invariant c.requires.own c.requires.stands c.requires.leaf c.remove.ensures.updates;
  capacity = same_view_room c.self.inside.slab c.remove.new.self c.args.self.now c.self.view_is c.remove.ensures.capacity;
}

pub drop-requires-room-T-Destruct : goal.drop-requires-room-T-Destruct
drop-requires-room-T-Destruct g c κs within = entries16_fits g.row.P g.met.P.Small.small

pub drop-requires-2-room-T-Destruct : goal.drop-requires-2-room-T-Destruct
drop-requires-2-room-T-Destruct g c κs within = entries48_fits g.row.P g.met.P.Small.small

pub drop-requires-3-room-T-Destruct : goal.drop-requires-3-room-T-Destruct
drop-requires-3-room-T-Destruct g c κs within = places256_fits g.row.P g.met.P.Small.small

pub drop-requires-4-room-T-Destruct : goal.drop-requires-4-room-T-Destruct
drop-requires-4-room-T-Destruct g c κs within = values16_fits g.row.P-Kept g.met.P.Kept.Small.small

pub drop-requires-5-room-T-Destruct : goal.drop-requires-5-room-T-Destruct
drop-requires-5-room-T-Destruct g c κs within = values48_fits g.row.P-Kept g.met.P.Kept.Small.small

pub drop-requires-6-room-T-Destruct : goal.drop-requires-6-room-T-Destruct
drop-requires-6-room-T-Destruct g c κs within = values256_fits g.row.P-Kept g.met.P.Kept.Small.small
