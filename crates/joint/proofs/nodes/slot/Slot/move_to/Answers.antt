use Rattle.congee.specs.forms.RoomLemmas.{any_node_fits}
use Rattle.joint.specs.contracts.id.Id.{the_row}
use Rattle.joint.specs.nodes.RoomLemmas.{small_id}
use Rattle.joint.proofs.lemmas.nodes.Copying.{empty_in, room_in, alike_in, hands_slots}
use Rattle.joint.proofs.lemmas.nodes.Hanging.{solid_in}
use Rattle.joint.proofs.nodes.slot.Slot.move_to.Goals as goal

pub move_to-requires : goal.move_to-requires
move_to-requires g c =
    let empty = empty_in c.args.other.now c.in-Some-node.other c.in-Some-node.is c.requires.room.empty in
    let room = room_in c.args.self.now c.args.other.now c.in-Some.node c.in-Some-node.other c.in-Some.is c.in-Some-node.is c.requires.room.room in
    let alike = alike_in c.args.self.now c.in-Some.node c.in-Some.is c.requires.room.alike in
    let solid = solid_in c.args.self.now c.in-Some.node c.in-Some.is c.requires.whole in (
      any_node_fits the_row g.row.P small_id g.met.P.Small.small,
      (
        rw c.deref_mut-in-Some-node.ensures.value empty,
        (
          rw (c.deref_mut.ensures.value, c.deref_mut-in-Some-node.ensures.value) room,
          (rw c.deref_mut.ensures.value alike, rw c.deref_mut.ensures.value solid),
        ),
      ),
    )

pub returns : goal.returns
returns g c = hands_slots c.args.self.now c.args.other.now c.in-Some.node c.in-Some-node.other c.move_to.new.node c.move_to.new.other c.in-Some.is c.in-Some-node.is c.requires.whole
    (rw (c.deref_mut.ensures.value, c.deref_mut-in-Some-node.ensures.value) at c.move_to.ensures.moved) (rw c.deref_mut.ensures.value at c.move_to.ensures.left)
