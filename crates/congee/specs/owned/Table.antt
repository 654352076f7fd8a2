-- A finite map from what a function gives for each number below a bound.
use Rattle.std.specs.Prelude.{ℕ, zero, suc, ◌^◌, Option, None, Some}
use Rattle.std.specs.Ordering.{nat_cmp}
use Rattle.std.specs.FinMap.{FinMap, empty, insert}
use Rattle.congee.specs.Heap.{value_at}
use Rattle.congee.specs.Keys.{key_bytes}
use Rattle.congee.specs.owned.Arena.{Nodes, heap_of}

module _ {V : Type 0} where
  -- with the pair, if there is one
  abbrev pub with_pair : FinMap nat_cmp V → ℕ → Option V → FinMap nat_cmp V
  with_pair m k None = m
  with_pair m k (Some v) = insert m k v

  -- the pairs of the numbers below n
  unfoldable pub table : (ℕ → Option V) → ℕ → FinMap nat_cmp V
  table f zero = empty
  table f (suc n) = with_pair (table f n) n (f n)

  -- the pairs that stand in the nodes: each key of 64 bits with what its way from the root finds
  unfoldable pub pairs_of : Nodes V → FinMap nat_cmp V
  pairs_of s = table (λ k. value_at (heap_of s) (key_bytes k)) (2 ^ 64)
