use Rattle.congee.specs.owned.EntryRoom.{masked_fits}
use Rattle.congee.proofs.owned.places.Places.len.Goals as goal

pub len-requires-in-N256 : goal.len-requires-in-N256
len-requires-in-N256 g c = masked_fits g.row.P g.met.P.Small.small

pub returns-in-N4 : goal.returns-in-N4
returns-in-N4 g c = rw c.in-N4.is c.len.ensures

pub returns-in-N16 : goal.returns-in-N16
returns-in-N16 g c = rw c.in-N16.is c.len-in-N16.ensures

pub returns-in-N48 : goal.returns-in-N48
returns-in-N48 g c = rw c.in-N48.is c.len-in-N48.ensures

pub returns-in-N256 : goal.returns-in-N256
returns-in-N256 g c = rw (c.in-N256.is, ← c.deref.ensures) c.len-in-N256.ensures
