-- Pairs of the tree that are handed to a drainer, one after another.
use Rattle.std.specs.Prelude.{List, ℕ, ◌^◌, ◌≡◌, ◌<◌, ◌≤◌, ◌+◌}
use Rattle.std.specs.List.{FoldsTo}
use Rattle.std.specs.FinMap.{entries, get}
use Rattle.judge.specs.Answer.{Pairs}
use Rattle.congee.specs.owned.Ranges.{in_range}
use Rattle.congee.specs.Heap.{Node, value_at, Stands}
use Rattle.congee.specs.Keys.{key_bytes}
use Rattle.congee.specs.Notes.{Note, Tree, Linked}
use Rattle.congee.specs.protocol.Regions.{IsRegion, span}

-- the drainer took each of these pairs, one after the other
abbrev pub Drained : {K V D : Type 0} → (D → K → V → D → Type 0) → D → List (K × V) → D → Type 0
Drained drains before pairs after = FoldsTo (λ d pair e. drains d pair.0 pair.1 e) before pairs after

-- the pairs of the keys from one on
abbrev pub pairs_from : {V : Type 0} → ℕ → Pairs V → List (ℕ × V)
pairs_from from m = in_range from (2 ^ 64) (entries m)

-- from one key on the map is that of the tree
abbrev pub AgreesFrom : {V : Type 0} → (ℕ → Node V) → ℕ → Pairs V → Type 0
AgreesFrom h from m = (k : ℕ) → from ≤ k → k < 2 ^ 64 → get m k ≡ value_at h (key_bytes k)

-- the drainer took the pairs of the keys from one to before another: once it has the others too, it took all from the
-- first on; and those stand as they did
pub record Takes {V D : Type 0} (drains : D → ℕ → V → D → Type 0) (h : ℕ → Node V) (from : ℕ) (before : D) (h' : ℕ → Node V) (to : ℕ) (after : D) : Type 0 where
  pub rest : (k : ℕ) → to ≤ k → k < 2 ^ 64 → value_at h' (key_bytes k) ≡ value_at h (key_bytes k)
  pub drained : (m : Pairs V) → AgreesFrom h from m → (last : D) → Drained drains after (pairs_from to m) last → Drained drains before (pairs_from from m) last

-- the drainer took the pairs at and below a node of a tree, whose keys are those that its prefix begins; the nodes stand in
-- the tree as they did
pub record TakesBelow {V D : Type 0} (drains : D → ℕ → V → D → Type 0) (h : ℕ → Node V) (n : ℕ) (before : D) (h' : ℕ → Node V) (after : D) : Type 0 where
  pub base : ℕ
  pub depth : ℕ
  pub region : IsRegion (h n).prefix base depth
  pub takes : Takes drains h base before h' (base + span depth) after
  pub prefixes : (m : ℕ) → (h' m).prefix ≡ (h m).prefix
  pub stands : (m : ℕ) → Stands (h m) → Stands (h' m)
  pub tree : (a : ℕ → Note) → Tree a h → (a n).status ≡ Linked → Tree a h'
