use Rattle.std.proofs.Common.{rules}
use Rattle.congee.specs.owned.EntryRoom.{masked_fits}
use Rattle.congee.proofs.owned.places.Places.remove.Goals as goal

pub remove-requires-in-N256 : goal.remove-requires-in-N256
remove-requires-in-N256 g c = (masked_fits g.row.P g.met.P.Small.small, search rules)
