use Rattle.std.proofs.Common.{rules, arith}
use Rattle.std.proofs.lemmas.Bool.Decides.{nat_tests}
use Rattle.congee.specs.owned.EntryRoom.{masked_fits}
use Rattle.congee.proofs.owned.places.Places.insert.Goals as goal

pub insert-requires : goal.insert-requires
insert-requires g c = (search rules, (search rules, grind (arith, nat_tests, c.requires.room, c.in-N4.is)))

pub insert-requires-in-N16 : goal.insert-requires-in-N16
insert-requires-in-N16 g c = (search rules, (search rules, grind (arith, nat_tests, c.requires.room, c.in-N16.is)))

pub insert-requires-in-N48 : goal.insert-requires-in-N48
insert-requires-in-N48 g c = (search rules, (search rules, grind (arith, nat_tests, c.requires.room, c.in-N48.is)))

pub insert-requires-in-N256 : goal.insert-requires-in-N256
insert-requires-in-N256 g c = (masked_fits g.row.P g.met.P.Small.small, search rules)
