-- Calls on an owned tree that take or put several pairs.
use Rattle.std.specs.Prelude.{◌≡◌, ℕ, ◌<◌, ◌≤◌, ◌⊎◌, Bool, cond, List, [], ◌∷◌, ◌++◌, Option, None}
use Rattle.std.specs.Ordering.{nat_cmp}
use Rattle.std.specs.FinMap as map
use Rattle.std.specs.Iterator.{Drains, Yields}
use Rattle.congee.specs.owned.Content.{Content, KeepsCharge}
use Rattle.congee.specs.owned.Wanted.{IsRefused}
use Rattle.congee.specs.declared.allocator.OOMError.{OOMError}

-- nodes went: they take no more bytes than before, and the charge moved as they did
pub record Lightens {V A D : Type 0} (charged limit : A → ℕ) (old new : Content V A D) : Type 0 where
  pub no_more : new.bytes ≤ old.bytes
  pub keeps : KeepsCharge charged limit old new

-- a map without the keys from one number on to another, which stays; each other key has what it had
pub record WithoutRange {X : Type 0} (start end : ℕ) (old new : map.FinMap nat_cmp X) : Type 0 where
  pub gone : (q : ℕ) → start ≤ q → q < end → map.get new q ≡ None
  pub stays : (q : ℕ) → (q < start) ⊎ (end ≤ q) → map.get new q ≡ map.get old q

module _ {F K V : Type 0} (asks : F → K → V → Bool → F → Type 0) (key : ℕ → K) (value : ℕ → V) where
  -- a question about each pair in turn, the first one first: those that a yes comes to are kept
  abbrev pub Sifts : F → List (ℕ × ℕ) → List (ℕ × ℕ) → F → Type 0
  Sifts f [] kept after = (kept ≡ []) × (after ≡ f)
  Sifts f (pair ∷ pairs) kept after = (yes : Bool) × (next : F) × (rest : List (ℕ × ℕ))
      × asks f (key pair.0) (value pair.1) yes next × (kept ≡ cond yes (pair ∷ rest) rest) × Sifts next pairs rest after

module _ {K V : Type 0} (key : K → ℕ) (value : V → ℕ) where
  -- a map with pairs put in, one after the other
  abbrev pub put_all : map.FinMap nat_cmp ℕ → List (K × V) → map.FinMap nat_cmp ℕ
  put_all m [] = m
  put_all m (pair ∷ pairs) = put_all (map.insert m (key pair.0) (value pair.1)) pairs

-- no node could be made for an absent key of this number
pub record LacksRoom {V A D : Type 0} (charged limit : A → ℕ) (t : Content V A D) (key : ℕ) (e : OOMError) : Type 0 where
  pub absent : map.get t.pairs key ≡ None
  pub cause : IsRefused (map.get t.wants key) (charged t.allocator) (limit t.allocator) e

module _ {U T K V : Type 0} (becomes : U → T → Type 0) (steps : T → Option (K × V) → T → Type 0) (key : K → ℕ) (value : V → ℕ) where
  -- all pairs of an iterator were put in
  pub record PutsAll {A D : Type 0} (pairs : U) (old new : Content ℕ A D) : Type 0 where
    pub iterator : T
    pub items : List (K × V)
    pub begins : becomes pairs iterator
    pub drains : Drains steps iterator items
    pub puts : new.pairs ≡ put_all key value old.pairs items

  -- those before the one that was refused were
  pub record PutsSome {A D : Type 0} (charged limit : A → ℕ) (pairs : U) (old new : Content ℕ A D) (e : OOMError) : Type 0 where
    pub iterator : T
    pub items : List (K × V)
    pub refused : K × V
    pub after : T
    pub begins : becomes pairs iterator
    pub yields : Yields steps iterator (items ++ refused ∷ []) after
    pub puts : new.pairs ≡ put_all key value old.pairs items
    pub cause : LacksRoom charged limit new (key refused.0) e
