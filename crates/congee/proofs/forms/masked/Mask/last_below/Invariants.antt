use Rattle.std.proofs.Common.{◌≡◌, ℕ, ◌≤◌, ◌<◌}
use Rattle.congee.specs.forms.Mask.{bit_of}
use Rattle.congee.proofs.forms.masked.Mask.last_below.Given as goal

abbrev pub invariant-loop-past : goal.invariant-loop-past
invariant-loop-past l = (l.past ≤ l.fn.end) × ((b : ℕ) → l.past ≤ b → b < l.fn.end → bit_of l.self.bytes b ≡ 0)

abbrev pub decreases-loop-past : goal.decreases-loop-past
decreases-loop-past l = l.past
