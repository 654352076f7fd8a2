use Rattle.std.proofs.Common.{◌-◌}
use Rattle.congee.proofs.lemmas.owned.Refilling.{IsMoving}
use Rattle.congee.proofs.owned.places.Places.move_each.Given as goal

abbrev pub invariant-loop-byte : goal.invariant-loop-byte
invariant-loop-byte g l = IsMoving l.fn.self l.fn.other l.self l.other l.from

abbrev pub decreases-loop-byte : goal.decreases-loop-byte
decreases-loop-byte g l = 256 - l.from
