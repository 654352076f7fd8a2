-- An attempt to advance the epoch.
use Rattle.std.specs.Prelude.{ℕ, ◌≡◌, ◌≢◌, ◌+◌, ◌≤◌}
use Rattle.crossbeam_epoch.specs.declared.face.pins.attempt.Attempt.{Attempt}
use Rattle.crossbeam_epoch.specs.declared.face.pins.attempt.Ending.{Ending}
use Rattle.crossbeam_epoch.specs.declared.face.pins.attempt.Ending.TheVariants.{AtLast, Stopped, Exchanged}
use Rattle.crossbeam_epoch.specs.face.Pins.{Passes}

-- an attempt from an epoch ended so, and this epoch was seen last: the epoch was the last one; or a place wasn't passed; or every
-- place was, and the epoch was exchanged once, and went on where it was still the one that was looked at
abbrev pub EndsAs : ℕ → ℕ → Ending → ℕ → Type 0
EndsAs last from AtLast seen = (last ≤ from) × (seen ≡ from)
EndsAs last from (Stopped number) seen = (¬ Passes from number) × (seen ≡ from)
EndsAs last from (Exchanged found) seen = (found ≡ from → seen ≡ from + 1) × (found ≢ from → seen ≡ from)

-- the attempt ended so, and this epoch was seen last
abbrev pub IsAttempt : ℕ → Attempt → ℕ → Type 0
IsAttempt last a seen = EndsAs last a.from a.ending seen
