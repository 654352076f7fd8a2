use Rattle.congee.specs.owned.EntryRoom.{masked_fits}
use Rattle.congee.proofs.owned.places.Places.get_child.Goals as goal

pub get_child-requires-in-N256 : goal.get_child-requires-in-N256
get_child-requires-in-N256 g c = masked_fits g.row.P g.met.P.Small.small
