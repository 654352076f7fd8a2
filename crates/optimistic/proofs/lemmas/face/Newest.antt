-- What a range from the greatest key down leaves out.
use Rattle.std.proofs.Common.{◌≡◌, ◌⊎◌, ℕ, ◌<◌, ◌≤◌, List, Some, inl, inr, arith}
use Rattle.std.specs.List.{Contains}
use Rattle.std.proofs.lemmas.Bool.{cases_lt}
use Rattle.optimistic.specs.declared.drain.nexts.Pair.{Pair}
use Rattle.optimistic.specs.declared.words.rule.Entry.{Entry}
use Rattle.optimistic.specs.words.Kept.{value_of}
use Rattle.optimistic.specs.tree.Drained.{pair_of}
use Rattle.optimistic.specs.tree.WholesBack.{IsRangeBack}

-- a pair of the range that isn't told has a lower key than all that are
pub rest_is_lower : (log : List Entry) (from to places : ℕ) (pairs : List Pair) → IsRangeBack log from to places pairs → (key value : ℕ) → from ≤ key → key < to → value_of key log ≡ Some value → Contains pairs (pair_of key value) ⊎ ((p : Pair) → Contains pairs p → key < p.key)
rest_is_lower log from to places pairs range key value above below is = elim (cases_lt key range.low) [
  | inl l ↦ inr (λ p c. let b = (range.told.told p c).0 in omega (arith, l, b))
  | inr g ↦ inl (range.told.all key value g below is)
]
