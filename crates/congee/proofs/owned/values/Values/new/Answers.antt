use Rattle.congee.specs.owned.ValueRoom.{values16_fits, values48_fits, values256_fits}
use Rattle.congee.proofs.owned.values.Values.new.Goals as goal

pub from_residual-requires-room-F-From :
    goal.from_residual-requires-room-F-From
from_residual-requires-room-F-From g c κs within = values16_fits g.row.X g.met.X.Small.small

pub from_residual-requires-in_err-new-in-N48-room-F-From :
    goal.from_residual-requires-in_err-new-in-N48-room-F-From
from_residual-requires-in_err-new-in-N48-room-F-From g c κs within = values48_fits g.row.X g.met.X.Small.small

pub from_residual-requires-in_err-new-in-N256-room-F-From :
    goal.from_residual-requires-in_err-new-in-N256-room-F-From
from_residual-requires-in_err-new-in-N256-room-F-From g c κs within = values256_fits g.row.X g.met.X.Small.small
