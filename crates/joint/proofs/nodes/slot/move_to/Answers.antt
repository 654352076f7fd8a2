use Rattle.congee.specs.forms.RoomLemmas.{any_node_fits}
use Rattle.joint.specs.contracts.id.Id.{the_row}
use Rattle.joint.specs.nodes.RoomLemmas.{small_id}
use Rattle.joint.proofs.lemmas.nodes.Copying.{left_same, left_none}
use Rattle.joint.proofs.nodes.slot.move_to.Goals as goal

pub copy_names-requires : goal.copy_names-requires
copy_names-requires g c = (
  any_node_fits the_row g.row.P small_id g.met.P.Small.small,
  (c.requires.empty, (c.requires.room, (c.holds_names.ensures.names c.if-holds_names.true, c.requires.solid))),
)

pub returns-else-holds_names-clause-left : goal.returns-else-holds_names-clause-left
returns-else-holds_names-clause-left g c = left_none c.args.node.now c.move_to.new.self c.requires.solid (c.holds_names.ensures.values c.if-holds_names.false) c.move_to.ensures.left

pub returns-then-holds_names-clause-left : goal.returns-then-holds_names-clause-left
returns-then-holds_names-clause-left g c = left_same c.args.node.now c.requires.solid (c.holds_names.ensures.names c.if-holds_names.true)
