use Rattle.congee.specs.forms.RoomLemmas.{any_node_fits}
use Rattle.joint.specs.contracts.id.Id.{the_row}
use Rattle.joint.specs.nodes.RoomLemmas.{small_id}
use Rattle.joint.proofs.nodes.cells.put_back.Goals as goal

pub drop-requires-room-T-Destruct : goal.drop-requires-room-T-Destruct
drop-requires-room-T-Destruct g c κs within = any_node_fits the_row g.row.P small_id g.met.P.Small.small
