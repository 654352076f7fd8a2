use Rattle.std.proofs.Common.{arith}
use Rattle.congee.specs.forms.RoomLemmas.{sorted_fits, indexed_fits, masked_fits, node16_fits, node48_fits, node256_fits}
use Rattle.congee.proofs.forms.base_node.Node.new.Goals as goal

pub new-requires-in-N16 : goal.new-requires-in-N16
new-requires-in-N16 g c = (sorted_fits g.row.C g.row.P g.met.C.Small.small g.met.P.Small.small, omega arith)

pub new-requires-in-N48 : goal.new-requires-in-N48
new-requires-in-N48 g c = indexed_fits g.row.C g.row.P g.met.C.Small.small g.met.P.Small.small

pub new-requires-in-N256 : goal.new-requires-in-N256
new-requires-in-N256 g c = masked_fits g.row.C g.row.P g.met.C.Small.small g.met.P.Small.small

pub from_residual-requires-room-F-From :
    goal.from_residual-requires-room-F-From
from_residual-requires-room-F-From g c κs within = node16_fits g.row.C g.row.P g.met.C.Small.small g.met.P.Small.small

pub from_residual-requires-in_err-new-in-N48-room-F-From :
    goal.from_residual-requires-in_err-new-in-N48-room-F-From
from_residual-requires-in_err-new-in-N48-room-F-From g c κs within = node48_fits g.row.C g.row.P g.met.C.Small.small g.met.P.Small.small

pub from_residual-requires-in_err-new-in-N256-room-F-From :
    goal.from_residual-requires-in_err-new-in-N256-room-F-From
from_residual-requires-in_err-new-in-N256-room-F-From g c κs within = node256_fits g.row.C g.row.P g.met.C.Small.small g.met.P.Small.small
