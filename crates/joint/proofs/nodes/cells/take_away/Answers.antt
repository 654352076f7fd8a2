use Rattle.congee.specs.forms.RoomLemmas.{any_node_fits}
use Rattle.joint.specs.contracts.id.Id.{the_row}
use Rattle.joint.specs.nodes.RoomLemmas.{small_id}
use Rattle.joint.proofs.lemmas.nodes.Totals.{emptied_empties}
use Rattle.joint.proofs.nodes.cells.take_away.Goals as goal

pub drop-requires-room-T-Destruct : goal.drop-requires-room-T-Destruct
drop-requires-room-T-Destruct g c κs within = any_node_fits the_row g.row.P small_id g.met.P.Small.small

pub returns-clause-slot : goal.returns-clause-slot
returns-clause-slot g c = (c.in-Ok.field-0, rw c.in-Ok.ensures.ok.1 (emptied_empties c.args.collector.now.store c.args.at c.in-Ok.field-0 c.in-Ok.ensures.ok.0 (c.cells.ensures.emptied c.args.collector.now.store c.args.at c.requires)))
