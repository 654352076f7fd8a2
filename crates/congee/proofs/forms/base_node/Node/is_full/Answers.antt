use Rattle.congee.specs.forms.RoomLemmas.{sorted_fits, indexed_fits}
use Rattle.congee.proofs.forms.base_node.Node.is_full.Goals as goal

pub len-requires-in-N16 : goal.len-requires-in-N16
len-requires-in-N16 g c = sorted_fits g.row.C g.row.P g.met.C.Small.small g.met.P.Small.small

pub len-requires-in-N48 : goal.len-requires-in-N48
len-requires-in-N48 g c = indexed_fits g.row.C g.row.P g.met.C.Small.small g.met.P.Small.small
