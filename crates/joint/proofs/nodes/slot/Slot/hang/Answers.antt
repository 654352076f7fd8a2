use Rattle.congee.specs.forms.RoomLemmas.{any_node_fits}
use Rattle.joint.specs.contracts.id.Id.{the_row}
use Rattle.joint.proofs.lemmas.nodes.Hanging.{solid_in, room_of, hangs_slot}
use Rattle.joint.specs.nodes.RoomLemmas.{small_id}
use Rattle.joint.proofs.nodes.slot.Slot.hang.Goals as goal

pub hang-requires : goal.hang-requires
hang-requires g c = (
  any_node_fits the_row g.row.P small_id g.met.P.Small.small,
  (
    rw c.deref_mut.ensures.value (solid_in c.args.self.now c.in-Some.node c.in-Some.is c.requires.whole),
    λ w. rw c.deref_mut.ensures.value (room_of c.args.self.now c.in-Some.node c.args.byte c.args.child w c.in-Some.is c.requires.room),
  ),
)

pub returns : goal.returns
returns g c = hangs_slot c.args.self.now c.in-Some.node c.hang.new.node c.args.byte c.args.child c.in-Some.is (solid_in c.args.self.now c.in-Some.node c.in-Some.is c.requires.whole) c.requires.room (rw c.deref_mut.ensures.value at c.hang.ensures)
