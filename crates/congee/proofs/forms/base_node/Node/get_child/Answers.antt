use Rattle.congee.specs.forms.RoomLemmas.{sorted_fits, indexed_fits, masked_fits}
use Rattle.congee.proofs.forms.base_node.Node.get_child.Goals as goal

pub get_child-requires-in-N16 : goal.get_child-requires-in-N16
get_child-requires-in-N16 g c = sorted_fits g.row.C g.row.P g.met.C.Small.small g.met.P.Small.small

pub get_child-requires-in-N48 : goal.get_child-requires-in-N48
get_child-requires-in-N48 g c = indexed_fits g.row.C g.row.P g.met.C.Small.small g.met.P.Small.small

pub get_child-requires-in-N256 : goal.get_child-requires-in-N256
get_child-requires-in-N256 g c = masked_fits g.row.C g.row.P g.met.C.Small.small g.met.P.Small.small
