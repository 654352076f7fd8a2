use Rattle.congee.specs.owned.EntryRoom.{masked_fits, places256_fits}
use Rattle.congee.proofs.owned.places.Places.new.Goals as goal

pub new-requires-in-N256 : goal.new-requires-in-N256
new-requires-in-N256 g c = masked_fits g.row.P g.met.P.Small.small

pub from_residual-requires-in_err-new-in-N256-room-F-From :
    goal.from_residual-requires-in_err-new-in-N256-room-F-From
from_residual-requires-in_err-new-in-N256-room-F-From g c κs within = places256_fits g.row.P g.met.P.Small.small
