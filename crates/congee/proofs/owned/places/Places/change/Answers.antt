use Rattle.std.proofs.Common.{rules}
use Rattle.congee.specs.owned.EntryRoom.{masked_fits}
use Rattle.congee.proofs.owned.places.Places.change.Goals as goal

pub change-requires-in-N256 : goal.change-requires-in-N256
change-requires-in-N256 g c = (masked_fits g.row.P g.met.P.Small.small, search rules)
