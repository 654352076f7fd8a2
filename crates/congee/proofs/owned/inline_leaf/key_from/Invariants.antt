use Rattle.std.proofs.Common.{◌≡◌, ℕ, ◌<◌, ◌≤◌, get_or, length}
use Rattle.congee.proofs.owned.inline_leaf.key_from.Given as goal

abbrev pub invariant-loop-i : goal.invariant-loop-i
invariant-loop-i l =
    (length l.key ≡ 8) × (((j : ℕ) → j < l.i → get_or l.key j 0 ≡ get_or l.prefix j 0) × ((j : ℕ) → l.i ≤ j → j < 8 → get_or l.key j 0 ≡ l.last))
