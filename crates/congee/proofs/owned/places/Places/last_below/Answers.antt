use Rattle.congee.specs.owned.EntryRoom.{masked_fits}
use Rattle.congee.proofs.owned.places.Places.last_below.Goals as goal

pub last_below-requires-in-N256 : goal.last_below-requires-in-N256
last_below-requires-in-N256 g c = (masked_fits g.row.P g.met.P.Small.small, c.requires)
