use Rattle.std.specs.Prelude.{◌≡◌, length}
use Rattle.std.specs.Int.{bit_at}
use Rattle.optimistic.specs.forms.Bytes.{key_of}
use Rattle.optimistic.specs.forms.Wide.{HasPlaces}
use Rattle.optimistic.proofs.lemmas.forms.Scans.{IsCollected}
use Rattle.optimistic.proofs.forms.scan.places_taken.Given as goal

abbrev pub invariant-loop-rest : goal.invariant-loop-rest
invariant-loop-rest g l = IsCollected (key_of l.words) l.mask l.rest l.masks × (length l.places ≡ 256) × HasPlaces (key_of l.words) (bit_at l.mask) l.masks l.places

abbrev pub decreases-loop-rest : goal.decreases-loop-rest
decreases-loop-rest g l = l.rest
