-- Keys as numbers and as bytes, and the tree's map as a finite map from numbers.
use Rattle.std.specs.Prelude.{◌≡◌, ℕ, ◌<◌, ◌≤◌, ◌^◌, List, None}
use Rattle.std.specs.Int.{to_be_bytes, w64}
use Rattle.std.specs.Ordering.{nat_cmp}
use Rattle.std.specs.FinMap.{FinMap, get}
use Rattle.congee.specs.Heap.{Node, value_at}

-- a key's eight bytes, the highest first
abbrev pub key_bytes : ℕ → List ℕ
key_bytes k = to_be_bytes w64 k

-- the pairs that stand in the tree
pub record IsMapOf {V : Type 0} (h : ℕ → Node V) (m : FinMap nat_cmp V) : Type 0 where
  pub at : (k : ℕ) → k < 2 ^ 64 → get m k ≡ value_at h (key_bytes k)
  pub none_beyond : (k : ℕ) → 2 ^ 64 ≤ k → get m k ≡ None
