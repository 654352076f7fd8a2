use Rattle.std.specs.Prelude.{◌≡◌, ℕ, ◌+◌, ◌≤◌, ◌<◌}
use Rattle.optimistic.specs.forms.Wide.{bit_in}
use Rattle.optimistic.proofs.forms.gaps.last_set.Given as goal

abbrev pub invariant-loop-end : goal.invariant-loop-end
invariant-loop-end l = (l.end ≤ l.to + 1) × ((k : ℕ) → l.end ≤ k → k < l.to + 1 → bit_in l.masks k ≡ 0)

abbrev pub decreases-loop-end : goal.decreases-loop-end
decreases-loop-end l = l.end
