-- What stands in the tree at one moment.
use Rattle.std.specs.Prelude.{◌≡◌, ℕ, ◌+◌, ◌<◌, ◌≤◌, ◌⊎◌, ◌↔◌, Bool, true, false, List, [], ◌∷◌, None, IsSome, map}
use Rattle.std.specs.FinMap.{entries, get}
use Rattle.judge.specs.Answer.{Pairs}
use Rattle.congee.specs.Heap.{Node, Stands, value_at}
use Rattle.congee.specs.Keys.{IsMapOf, key_bytes}
use Rattle.congee.specs.Notes.{Note, Tree, Linked}
use Rattle.congee.specs.protocol.Regions.{IsRegion, span}
use Rattle.congee.specs.declared.protocol.store.Region.{Region}

-- a tree whose nodes stand
pub record IsTree {V : Type 0} (h : ℕ → Node V) : Type 0 where
  pub notes : ℕ → Note
  pub tree : Tree notes h
  pub stands : (n : ℕ) → (notes n).status ≡ Linked → Stands (h n)

-- the keys below some node
abbrev pub IsRegionOf : Region → Type 0
IsRegionOf x = (p : List ℕ) × IsRegion p x.base x.depth

-- no key from one to before another stands
abbrev pub NoneStand : {V : Type 0} → (ℕ → Node V) → (from to : ℕ) → Type 0
NoneStand h from to = (k : ℕ) → from ≤ k → k < to → value_at h (key_bytes k) ≡ None

-- the keys rise
abbrev pub AllAbove : ℕ → List ℕ → Type 0
AllAbove k [] = Unit {0}
AllAbove k (j ∷ js) = (k < j) × AllAbove k js

-- each is below all that follow it
abbrev pub Ascend : List ℕ → Type 0
Ascend [] = Unit {0}
Ascend (k ∷ ks) = AllAbove k ks × Ascend ks

-- the key is among them
abbrev pub Has : List ℕ → ℕ → Type 0
Has [] k = ⊥
Has (j ∷ js) k = (j ≡ k) ⊎ Has js k

-- the keys of a map, in ascending order
abbrev pub keys_of : {V : Type 0} → Pairs V → List ℕ
keys_of m = map (λ p. p.0) (entries m)

-- the list has all keys of a map and no other, and ascends
pub record AreKeys {V : Type 0} (m : Pairs V) (keys : List ℕ) : Type 0 where
  pub ascend : Ascend keys
  pub each : (k : ℕ) → Has keys k ↔ IsSome (get m k)

-- whether a map has no pair
abbrev pub IsEmptiness : {V : Type 0} → Pairs V → Bool → Type 0
IsEmptiness m true = (k : ℕ) → get m k ≡ None
IsEmptiness m false = (k : ℕ) × IsSome (get m k)

-- the keys of a map below a bound, in ascending order
pub record AreKeysBelow {V : Type 0} (m : Pairs V) (bound : ℕ) (keys : List ℕ) : Type 0 where
  pub ascend : Ascend keys
  pub below : (k : ℕ) → Has keys k → k < bound
  pub stand : (k : ℕ) → Has keys k → IsSome (get m k)
  pub all : (k : ℕ) → k < bound → IsSome (get m k) → Has keys k

-- behind the keys before those that a node's prefix begins stand these too
pub record PutsKeys {V : Type 0} (h : ℕ → Node V) (n : ℕ) (old new : List ℕ) : Type 0 where
  pub base : ℕ
  pub depth : ℕ
  pub region : IsRegion (h n).prefix base depth
  pub keys : (m : Pairs V) → IsMapOf h m → AreKeysBelow m base old → AreKeysBelow m (base + span depth) new
