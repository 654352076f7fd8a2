use Rattle.std.proofs.Common.{◌≡◌, ℕ, ◌≤◌, ◌<◌, ◌-◌}
use Rattle.congee.specs.forms.Mask.{bit_of}
use Rattle.congee.proofs.forms.masked.Mask.first_from.Given as goal

abbrev pub invariant-loop-byte : goal.invariant-loop-byte
invariant-loop-byte l = (l.from ≤ l.byte) × ((b : ℕ) → l.from ≤ b → b < l.byte → bit_of l.self.bytes b ≡ 0)

abbrev pub decreases-loop-byte : goal.decreases-loop-byte
decreases-loop-byte l = 256 - l.byte
