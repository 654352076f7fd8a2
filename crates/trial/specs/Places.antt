-- The places that the scans of a script's workers fill.
use Rattle.std.specs.Prelude.{ℕ, List, [], Option, None, Some, slice_get, slice_set}
use Rattle.congee.specs.protocol.Scans.{written}
use Rattle.joint.specs.declared.steps.Done.TheVariants.{Scanned}
use Rattle.joint.specs.declared.steps.Outcome.{Outcome}
use Rattle.joint.specs.declared.steps.Outcome.TheVariants.{Found, Done}

-- one that was never begun has filled none
abbrev pub places_or : Option (List (ℕ × ℕ)) → List (ℕ × ℕ)
places_or None = []
places_or (Some places) = places

-- those of a worker's scan
abbrev pub places_at : List (List (ℕ × ℕ)) → ℕ → List (ℕ × ℕ)
places_at scans who = places_or (slice_get scans who)

-- after a step of the worker's that ended so: a pair that it told stands in its place
abbrev pub filled : List (List (ℕ × ℕ)) → ℕ → Outcome ℕ → List (List (ℕ × ℕ))
filled scans who (Found place key value) = slice_set scans who (written (places_at scans who) place (key, value))
filled scans who _ = scans

-- what a call that stands so gives its reply: its places, where it is a scan that is done
abbrev pub given : Outcome ℕ → List (ℕ × ℕ) → List (ℕ × ℕ)
given (Done (Scanned count)) places = places
given _ places = []

-- and what is left then
abbrev pub left : Outcome ℕ → ℕ → List (List (ℕ × ℕ)) → List (List (ℕ × ℕ))
left (Done (Scanned count)) who scans = slice_set scans who []
left _ who scans = scans
