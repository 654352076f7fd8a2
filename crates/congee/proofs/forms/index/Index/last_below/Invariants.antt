use Rattle.std.proofs.Common.{◌≡◌, ℕ, ◌≤◌, ◌<◌}
use Rattle.congee.specs.forms.Index.{place_of}
use Rattle.congee.proofs.forms.index.Index.last_below.Given as goal

abbrev pub invariant-loop-past : goal.invariant-loop-past
invariant-loop-past l = (l.past ≤ l.fn.end) × ((b : ℕ) → l.past ≤ b → b < l.fn.end → place_of l.self b ≡ 48)

abbrev pub decreases-loop-past : goal.decreases-loop-past
decreases-loop-past l = l.past
