-- Finite maps from bytes to children.
use Rattle.std.specs.Prelude.{◌≡◌, ℕ, ◌+◌, ◌<◌, ◌≤◌, ltb, cond, List, [], ◌∷◌, Option, None, Some, IsSome}
use Rattle.std.specs.Ordering.{nat_cmp}
use Rattle.std.specs.FinMap as map

-- x is the child of b, the least byte from `from` on that has one
pub record IsFirst {X : Type 0} (m : map.FinMap nat_cmp X) (from b : ℕ) (x : X) : Type 0 where
  pub past : from ≤ b
  pub here : map.get m b ≡ Some x
  pub before : (q : ℕ) → from ≤ q → q < b → map.get m q ≡ None

-- these are the children from `from` on, in the order of their bytes
abbrev pub Lists : {X : Type 0} → map.FinMap nat_cmp X → ℕ → List X → Type 0
Lists m from [] = (b : ℕ) → from ≤ b → map.get m b ≡ None
Lists m from (x ∷ r) = (b : ℕ) × (b < 256) × IsFirst m from b x × Lists m (b + 1) r

-- b is the greatest byte below `end` that has a child
pub record IsLast {X : Type 0} (m : map.FinMap nat_cmp X) (end b : ℕ) : Type 0 where
  pub below : b < end
  pub here : IsSome (map.get m b)
  pub after : (q : ℕ) → b < q → q < end → map.get m q ≡ None

-- the greatest byte below `end` that has a child, if one has
abbrev pub IsLastBelow : {X : Type 0} → map.FinMap nat_cmp X → ℕ → Option ℕ → Type 0
IsLastBelow m end None = (b : ℕ) → b < end → map.get m b ≡ None
IsLastBelow m end (Some b) = IsLast m end b

-- the pairs whose byte lies from `start` to `end`, both included
abbrev pub between : {X : Type 0} → ℕ → ℕ → List (ℕ × X) → List (ℕ × X)
between start end [] = []
between start end ((b, x) ∷ r) = cond (ltb b start) (between start end r) (cond (ltb end b) (between start end r) ((b, x) ∷ between start end r))
