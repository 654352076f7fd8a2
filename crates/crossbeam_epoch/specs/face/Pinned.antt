-- A call under a guard of its own, and a pin that moves.
use Rattle.std.specs.Prelude.{◌≡◌, ◌+◌, ◌-◌, ◌<◌, true, false, nat_eq, Result, Err}
use Rattle.std.specs.Bool.{MatchBool}
use Rattle.crossbeam_epoch.specs.declared.face.guard.Guard.{Guard}
use Rattle.crossbeam_epoch.specs.declared.fault.Fault.{Fault}
use Rattle.crossbeam_epoch.specs.declared.fault.Fault.TheVariants.{Foreign}
use Rattle.crossbeam_epoch.specs.face.Handle.{owns}
use Rattle.crossbeam_epoch.specs.face.Participant.{Handle, IsPinned}

-- the handle with one guard more, which is its own and was confirmed by the handle's epoch
pub record IsPinnedFor {T J : Type 0} (h h' : Handle T J) (g : Guard T J) : Type 0 where
  pub state : h' ≡ record h { guards = h.guards + 1; epoch = h'.epoch; knows = h'.knows }
  pub guard : owns h'.guards h'.row g.row ≡ true
  pub epoch : g.epoch ≡ h'.epoch
  pub nested : 0 < h.guards → h'.epoch ≡ h.epoch
  pub word : IsPinned h'.guards h'.epoch h'.knows

-- the guard is spent, and the answer stands; where the guard isn't this handle's, Foreign stands in the answer's place
abbrev pub IsUnpinnedAfter : {T J O : Type 0} → Handle T J → Guard T J → Result O Fault → Handle T J → Result O Fault → Type 0
IsUnpinnedAfter h g answer h' result = MatchBool (owns h.guards h.row g.row)
    ((h' ≡ record h { guards = h.guards - 1; knows = h'.knows }) × (result ≡ answer))
    ((h' ≡ h) × (result ≡ Err Foreign))

-- the epoch of the pin and the guard's, and what the handle knows, may be others; the rest is as before
abbrev pub MovesPin : {T J : Type 0} → Handle T J → Guard T J → Handle T J → Guard T J → Type 0
MovesPin h g h' g' = (h' ≡ record h { epoch = h'.epoch; knows = h'.knows }) × (g' ≡ record g { epoch = g'.epoch })

-- where the guard is the only one that is out, it and the handle have the epoch that the handle saw last, and else those of before
abbrev pub MovesIfAlone : {T J : Type 0} → Handle T J → Guard T J → Handle T J → Guard T J → Type 0
MovesIfAlone h g h' g' = MatchBool (nat_eq h.guards 1) ((g'.epoch ≡ h'.epoch) × (h'.knows.seen ≡ h'.epoch)) ((h'.epoch ≡ h.epoch) × (g'.epoch ≡ g.epoch))

-- the guard is another handle's, and all is as before
abbrev pub RefusesToMove : {T J : Type 0} → Fault → Handle T J → Guard T J → Handle T J → Guard T J → Type 0
RefusesToMove fault h g h' g' = (fault ≡ Foreign) × (owns h.guards h.row g.row ≡ false) × (h' ≡ h) × (g' ≡ g)
