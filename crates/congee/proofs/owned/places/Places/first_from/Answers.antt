use Rattle.congee.specs.owned.EntryRoom.{masked_fits}
use Rattle.congee.proofs.owned.places.Places.first_from.Goals as goal

pub first_from-requires-in-N256 : goal.first_from-requires-in-N256
first_from-requires-in-N256 g c = masked_fits g.row.P g.met.P.Small.small
