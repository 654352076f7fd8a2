use Rattle.std.proofs.Common.{◌≡◌, ℕ, ◌≤◌, ◌<◌, ◌-◌}
use Rattle.optimistic.specs.forms.Wide.{bit_in}
use Rattle.optimistic.proofs.forms.scan.next_byte.Given as goal

abbrev pub invariant-loop-at : goal.invariant-loop-at
invariant-loop-at l = (l.from ≤ l.at) × ((k : ℕ) → l.from ≤ k → k < l.at → bit_in l.masks k ≡ 0)

abbrev pub decreases-loop-at : goal.decreases-loop-at
decreases-loop-at l = 256 - l.at
