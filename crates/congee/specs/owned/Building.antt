-- Trees that are made of pairs.
use Rattle.std.specs.Prelude.{◌≡◌, ◌⊎◌, ℕ, ◌+◌, ◌≤◌, List, [], ◌∷◌, ◌++◌, length, Option, IsSome, map}
use Rattle.std.specs.Ordering.{nat_cmp}
use Rattle.std.specs.FinMap as fin
use Rattle.std.specs.Iterator.{Drains, Yields}
use Rattle.std.specs.List.Sorted.{IsStrictlySortedBy}
use Rattle.congee.specs.forms.Forms.{size_of}
use Rattle.congee.specs.declared.forms.base_node.NodeType.TheVariants.{N256}
use Rattle.congee.specs.owned.Content.{Content}
use Rattle.congee.specs.owned.OwnedSteps.{IsRefusal}
use Rattle.congee.specs.owned.Several.{LacksRoom, put_all}
use Rattle.congee.specs.owned.Stats.{capped}
use Rattle.congee.specs.declared.allocator.OOMError.{OOMError}
use Rattle.congee.specs.declared.owned.building.BuildError.{BuildError}
use Rattle.congee.specs.declared.owned.building.BuildError.TheVariants.{OutOfOrder, Refused}
use Rattle.congee.specs.declared.owned.drainer.NoDrain.{NoDrain}

-- a tree over such a budget: the nodes' bytes are charged to it
pub record IsOver {A D : Type 0} (charged limit : A → ℕ) (allocator : A) (t : Content ℕ A D) : Type 0 where
  pub base : t.base ≡ charged allocator
  pub charge : charged t.allocator ≡ charged allocator + t.bytes
  pub same_limit : limit t.allocator ≡ limit allocator

-- no root could be made over a budget, or no node for a further key of a tree that was being made there
pub record StopsShort {A D : Type 0} (charged limit : A → ℕ) (allocator : A) (t : Content ℕ A D) (key : ℕ) (e : OOMError) : Type 0 where
  pub over : IsOver charged limit allocator t
  pub cause : LacksRoom charged limit t key e

-- a copy of the pairs wasn't made: the root, or a node for a pair's key beside those of pairs before it
abbrev pub CopyRefused : {A B D : Type 0} → (B → ℕ) → (B → ℕ) → B → Content ℕ A D → OOMError → Type 0
CopyRefused {A} {B} charged limit allocator from e = (IsRefusal (charged allocator) (size_of N256) (limit allocator) e)
    ⊎ ((t : Content ℕ B NoDrain) × (key : ℕ) × IsSome (fin.get from.pairs key)
    × ((q : ℕ) → IsSome (fin.get t.pairs q) → fin.get t.pairs q ≡ fin.get from.pairs q) × StopsShort charged limit allocator t key e)

-- the keys' numbers ascend
abbrev pub Ascend : {K V : Type 0} → (K → ℕ) → List (K × V) → Type 0
Ascend key items = IsStrictlySortedBy nat_cmp (map (λ pair. key pair.0) items)

module _ {U T K V : Type 0} (becomes : U → T → Type 0) (steps : T → Option (K × V) → T → Type 0) (key : K → ℕ) (value : V → ℕ) where
  -- a map of all pairs of an iterator, whose keys ascend
  pub record BuildsAll (pairs : U) (m : fin.FinMap nat_cmp ℕ) : Type 0 where
    pub iterator : T
    pub items : List (K × V)
    pub begins : becomes pairs iterator
    pub drains : Drains steps iterator items
    pub ascend : Ascend key items
    pub holds : m ≡ put_all key value fin.empty items

  -- the first pairs of an iterator ascend, and one comes after them
  pub record ComesTo (pairs : U) (items : List (K × V)) (next : K × V) : Type 0 where
    pub iterator : T
    pub after : T
    pub begins : becomes pairs iterator
    pub yields : Yields steps iterator (items ++ next ∷ []) after
    pub ascend : Ascend key items

  -- the first pair whose key isn't greater than the one before it, and how many come before it
  pub record IsFirstUnsorted (pairs : U) (place : ℕ) : Type 0 where
    pub front : List (K × V)
    pub last : K × V
    pub next : K × V
    pub comes : ComesTo pairs (front ++ last ∷ []) next
    pub not_greater : key next.0 ≤ key last.0
    pub counted : place ≡ capped (length (front ++ last ∷ []))

  module _ {A : Type 0} (charged limit : A → ℕ) (allocator : A) where
    -- there was no room for the root, or for the pair that came next
    abbrev pub BuildRefused : U → OOMError → Type 0
    BuildRefused pairs e = (IsRefusal (charged allocator) (size_of N256) (limit allocator) e)
        ⊎ ((items : List (K × V)) × (next : K × V) × (t : Content ℕ A NoDrain) × ComesTo pairs items next
        × (t.pairs ≡ put_all key value fin.empty items) × StopsShort charged limit allocator t (key next.0) e)

    -- why no tree was made
    abbrev pub IsBuildError : U → BuildError → Type 0
    IsBuildError pairs (OutOfOrder place) = IsFirstUnsorted pairs place
    IsBuildError pairs (Refused e) = BuildRefused pairs e
