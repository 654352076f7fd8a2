use Rattle.congee.specs.forms.RoomLemmas.{any_node_fits}
use Rattle.joint.specs.contracts.id.Id.{the_row}
use Rattle.joint.specs.nodes.RoomLemmas.{small_id}
use Rattle.joint.proofs.lemmas.nodes.Hanging.{fresh_slot}
use Rattle.joint.proofs.nodes.slot.Slot.new.Goals as goal

pub from_residual-requires-in_err-node-room-F-From : goal.from_residual-requires-in_err-node-room-F-From
from_residual-requires-in_err-node-room-F-From g c κs within = any_node_fits the_row g.row.P small_id g.met.P.Small.small

pub returns : goal.returns
returns g c = fresh_slot c.in_ok-node.node _ c.args.form c.args.prefix.now c.in_ok-node.ensures.ok c.in_ok-new.ensures.form c.in_ok-new.ensures.prefix c.in_ok-new.ensures.children
