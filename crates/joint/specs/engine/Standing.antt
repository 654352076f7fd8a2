-- The pairs that stand, as a value that the tree determines.
use Rattle.std.specs.Prelude.{ℕ, zero, suc, ◌^◌, Option}
use Rattle.std.specs.FinMap.{empty}
use Rattle.judge.specs.Answer.{Pairs, set_at}
use Rattle.congee.specs.Heap.{Node, value_at}
use Rattle.congee.specs.Keys.{key_bytes}
use Rattle.joint.specs.nodes.Nodes.{nodes}
use Rattle.joint.specs.engine.Engine.{World}

-- the map that has at each key below a bound what this function has there, and nothing from the bound on
unfoldable pub pairs_below : {V : Type 0} → (ℕ → Option V) → ℕ → Pairs V
pairs_below at zero = empty
pairs_below at (suc n) = set_at (pairs_below at n) n (at n)

-- the pairs that stand in a tree: the one map of which IsMapOf holds
unfoldable pub the_pairs : {V : Type 0} → (ℕ → Node V) → Pairs V
the_pairs h = pairs_below (λ k. value_at h (key_bytes k)) (2 ^ 64)

-- and in the machine
abbrev pub pairs_of : {V : Type 0} → World V → Pairs V
pairs_of s = the_pairs (nodes s.forest)
