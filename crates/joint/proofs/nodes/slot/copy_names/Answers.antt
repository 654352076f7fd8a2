use Rattle.congee.specs.forms.RoomLemmas.{any_node_fits}
use Rattle.joint.specs.contracts.id.Id.{the_row}
use Rattle.joint.specs.nodes.RoomLemmas.{small_id}
use Rattle.joint.proofs.lemmas.nodes.Copying.{copy_begins, copy_room, copy_goes, copy_ends, no_value}
use Rattle.joint.proofs.nodes.slot.copy_names.Goals as goal

pub loop-byte-init : goal.loop-byte-init
loop-byte-init g c = copy_begins c.args.node.now c.args.other.now c.requires.empty

pub insert-requires : goal.insert-requires
insert-requires g c = (
  any_node_fits the_row g.row.P small_id g.met.P.Small.small,
  (
    c.loop-byte.invariant.above c.in-Some.byte c.in-Some.ensures.past,
    copy_room c.args.node.now c.args.other.now c.loop-byte.other c.loop-byte.from c.in-Some.byte c.in-Some.child.now c.loop-byte.invariant c.in-Some.ensures c.requires.room,
  ),
)

pub returns : goal.returns
returns g c = copy_ends c.args.node.now c.args.other.now c.loop-byte.other c.loop-byte.from c.loop-byte.invariant c.in_default.ensures

pub unreachable-requires : goal.unreachable-requires
unreachable-requires g c = no_value c.args.node.now c.loop-byte.from c.in-Some.byte c.in-Some.child.now c.in-Value.field-0 c.requires.names c.in-Some.ensures c.in-Value.is

pub loop-byte-preserved : goal.loop-byte-preserved
loop-byte-preserved g c = copy_goes c.args.node.now c.args.other.now c.loop-byte.other c.insert.new.self c.loop-byte.from c.in-Some.byte c.in-Some.child.now _ c.loop-byte.invariant c.in-Some.ensures c.in-Node.is c.insert.ensures
