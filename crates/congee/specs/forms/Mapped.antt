-- A finite map with each value changed by its key.
use Rattle.std.specs.Prelude.{ℕ, List, [], ◌∷◌}
use Rattle.std.specs.Ordering.{nat_cmp}
use Rattle.std.specs.FinMap.{FinMap, entries, from_sorted}

module _ {X Y : Type 0} where
  -- each pair with what the function gives for it
  abbrev pub pairs_by : (ℕ → X → Y) → List (ℕ × X) → List (ℕ × Y)
  pairs_by f [] = []
  pairs_by f ((b, x) ∷ rest) = (b, f b x) ∷ pairs_by f rest

  -- the same keys, each with what the function gives for its pair
  unfoldable pub mapped : (ℕ → X → Y) → FinMap nat_cmp X → FinMap nat_cmp Y
  mapped f m = from_sorted (pairs_by f (entries m))
