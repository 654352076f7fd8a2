use Rattle.std.proofs.Common.{ℕ, ◌≡◌, ◌<◌, ◌-◌, get_or, length}
use Rattle.congee.proofs.owned.prefix_split.first_apart.Given as goal

abbrev pub invariant-loop-common : goal.invariant-loop-common
invariant-loop-common l = (l.common < length l.prefix) × ((j : ℕ) → j < l.common → get_or l.key j 0 ≡ get_or l.prefix j 0)

abbrev pub decreases-loop-common : goal.decreases-loop-common
decreases-loop-common l = length l.prefix - l.common
