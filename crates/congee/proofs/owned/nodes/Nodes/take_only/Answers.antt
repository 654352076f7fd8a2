use Rattle.std.proofs.Common.{subst}
use Rattle.congee.proofs.lemmas.owned.SlotOps.{has_slot, slot_inner, same_view_room}
use Rattle.congee.proofs.lemmas.owned.Takings.{lone_some, lone_stored, no_lone, only_len, plain_stored, take_gives}
use Rattle.congee.specs.owned.Lifting.{GivesOnly}
use Rattle.congee.specs.owned.Slots.{nodes_in}
use Rattle.congee.specs.owned.EntryRoom.{entries16_fits, entries48_fits, places256_fits}
use Rattle.congee.specs.owned.ValueRoom.{values16_fits, values48_fits, values256_fits}
use Rattle.congee.proofs.owned.nodes.Nodes.take_only.Goals as goal

pub remove-node-requires : goal.remove-node-requires
remove-node-requires g c = has_slot c.self.inside.slab c.args.self.now c.self.view_is c.self.inside.inline c.self.invariant c.args.at c.at.inside.slot c.at.inside.byte c.at.view_is c.at.invariant c.requires.stands c.requires.inner

pub take_only-requires : goal.take_only-requires
take_only-requires g c = (
  g.met.P.Stored.fits,
  (slot_inner c.self.inside.slab c.args.self.now c.self.view_is c.self.inside.inline c.self.invariant c.args.at c.at.inside.slot c.at.inside.byte c.at.view_is c.at.invariant c.requires.stands c.requires.inner c.remove-node.result c.remove-node.ensures.value, only_len c.self.inside.slab c.args.self.now c.self.view_is c.self.inside.inline c.self.invariant c.args.at c.at.inside.slot c.at.inside.byte c.at.view_is c.at.invariant c.requires.stands c.requires.inner c.requires.alone c.remove-node.result c.remove-node.ensures.value),
)

pub overflow_sub-self : goal.overflow_sub-self
overflow_sub-self g c = lone_some c.self.inside.slab c.args.self.now c.self.view_is c.self.inside.inline c.self.invariant c.args.at c.at.inside.slot c.at.inside.byte c.at.view_is c.at.invariant c.requires.stands c.requires.inner c.requires.alone c.remove-node.result c.remove-node.ensures.value c.take_only.result c.take_only.ensures c.remove-node.new.self c.remove-node.ensures.updates c.in-Value.lone c.in-Value.is

pub invariant_of-self : goal.invariant_of-self
invariant_of-self g c = lone_stored c.self.inside.slab c.args.self.now c.self.view_is c.self.inside.inline c.self.invariant c.args.at c.at.inside.slot c.at.inside.byte c.at.view_is c.at.invariant c.requires.stands c.requires.inner c.requires.alone c.remove-node.result c.remove-node.ensures.value c.take_only.result c.take_only.ensures c.remove-node.new.self c.remove-node.ensures.updates c.in-Value.lone c.in-Value.is c.remove-node.ensures.capacity c.remove-node.ensures.len

pub invariant_of-self-in_default : goal.invariant_of-self-in_default
invariant_of-self-in_default g c = plain_stored c.self.inside.slab c.args.self.now c.self.view_is c.self.inside.inline c.self.invariant c.args.at c.at.inside.slot c.at.inside.byte c.at.view_is c.at.invariant c.requires.stands c.requires.inner c.requires.alone c.remove-node.result c.remove-node.ensures.value c.take_only.result c.take_only.ensures c.remove-node.new.self c.remove-node.ensures.updates (no_lone c.take_only.result c.in_default.not-Value) c.remove-node.ensures.capacity c.remove-node.ensures.len

pub returns-in-Value : goal.returns-in-Value
returns-in-Value g c = record {
  gives = λ y h. subst (λ w. GivesOnly c.args.self.now (nodes_in c.remove-node.new.self) c.args.at y w) c.in-Value.is (take_gives c.self.inside.slab c.args.self.now c.self.view_is c.self.inside.inline c.self.invariant c.args.at c.at.inside.slot c.at.inside.byte c.at.view_is c.at.invariant c.requires.stands c.requires.inner c.requires.alone c.remove-node.result c.remove-node.ensures.value c.take_only.result c.take_only.ensures c.remove-node.new.self c.remove-node.ensures.updates y h);
  capacity = same_view_room c.self.inside.slab c.remove-node.new.self c.args.self.now c.self.view_is c.remove-node.ensures.capacity;
}

pub returns : goal.returns
returns g c = record {
  gives = take_gives c.self.inside.slab c.args.self.now c.self.view_is c.self.inside.inline c.self.invariant c.args.at c.at.inside.slot c.at.inside.byte c.at.view_is c.at.invariant c.requires.stands c.requires.inner c.requires.alone c.remove-node.result c.remove-node.ensures.value c.take_only.result c.take_only.ensures c.remove-node.new.self c.remove-node.ensures.updates;
  capacity = same_view_room c.self.inside.slab c.remove-node.new.self c.args.self.now c.self.view_is c.remove-node.ensures.capacity;
}

pub drop-requires-room-T-Destruct : goal.drop-requires-room-T-Destruct
drop-requires-room-T-Destruct g c κs within = entries16_fits g.row.P g.met.P.Small.small

pub drop-requires-in-Value-2-room-T-Destruct : goal.drop-requires-in-Value-2-room-T-Destruct
drop-requires-in-Value-2-room-T-Destruct g c κs within = entries48_fits g.row.P g.met.P.Small.small

pub drop-requires-in-Value-3-room-T-Destruct : goal.drop-requires-in-Value-3-room-T-Destruct
drop-requires-in-Value-3-room-T-Destruct g c κs within = places256_fits g.row.P g.met.P.Small.small

pub drop-requires-in-Value-4-room-T-Destruct : goal.drop-requires-in-Value-4-room-T-Destruct
drop-requires-in-Value-4-room-T-Destruct g c κs within = values16_fits g.row.P-Kept g.met.P.Kept.Small.small

pub drop-requires-in-Value-5-room-T-Destruct : goal.drop-requires-in-Value-5-room-T-Destruct
drop-requires-in-Value-5-room-T-Destruct g c κs within = values48_fits g.row.P-Kept g.met.P.Kept.Small.small

pub drop-requires-in-Value-6-room-T-Destruct : goal.drop-requires-in-Value-6-room-T-Destruct
drop-requires-in-Value-6-room-T-Destruct g c κs within = values256_fits g.row.P-Kept g.met.P.Kept.Small.small

pub drop-requires-in_default-room-T-Destruct : goal.drop-requires-in_default-room-T-Destruct
drop-requires-in_default-room-T-Destruct g c κs within = entries16_fits g.row.P g.met.P.Small.small

pub drop-requires-in_default-2-room-T-Destruct : goal.drop-requires-in_default-2-room-T-Destruct
drop-requires-in_default-2-room-T-Destruct g c κs within = entries48_fits g.row.P g.met.P.Small.small

pub drop-requires-in_default-3-room-T-Destruct : goal.drop-requires-in_default-3-room-T-Destruct
drop-requires-in_default-3-room-T-Destruct g c κs within = places256_fits g.row.P g.met.P.Small.small

pub drop-requires-in_default-4-room-T-Destruct : goal.drop-requires-in_default-4-room-T-Destruct
drop-requires-in_default-4-room-T-Destruct g c κs within = values16_fits g.row.P-Kept g.met.P.Kept.Small.small

pub drop-requires-in_default-5-room-T-Destruct : goal.drop-requires-in_default-5-room-T-Destruct
drop-requires-in_default-5-room-T-Destruct g c κs within = values48_fits g.row.P-Kept g.met.P.Kept.Small.small

pub drop-requires-in_default-6-room-T-Destruct : goal.drop-requires-in_default-6-room-T-Destruct
drop-requires-in_default-6-room-T-Destruct g c κs within = values256_fits g.row.P-Kept g.met.P.Kept.Small.small
