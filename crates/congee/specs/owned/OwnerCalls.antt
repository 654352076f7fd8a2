-- What a tree of owners tells of its pairs, and why a closure's answer isn't in it.
use Rattle.std.specs.Prelude.{◌≡◌, ℕ, Option, None, Some, IsSome}
use Rattle.std.specs.Ordering.{nat_cmp}
use Rattle.std.specs.FinMap as map
use Rattle.std.specs.Arc.{arc_value}
use Rattle.std.specs.declared.alloc.Global.{Global}
use Rattle.std.specs.declared.sync.Arc.{Arc}
use Rattle.congee.specs.owned.Nearest.{IsGreatestPair, IsLeastPair, NoneBelow, NoneFrom}
use Rattle.congee.specs.owned.Owners.{Owners, OwnerRefuses}
use Rattle.congee.specs.declared.owned.arc_calls.Uncomputed.{Uncomputed}
use Rattle.congee.specs.declared.owned.arc_calls.Uncomputed.TheVariants.{Count, Refused}

-- a pair with its key as what stands for its number
abbrev pub shared_by : {K V : Type 0} → (ℕ → K) → ℕ × V → K × V
shared_by key pair = (key pair.0, pair.1)

module _ {K V O : Type 0} (key : ℕ → K) (value : O → V) (m : map.FinMap nat_cmp V) where
  -- the pair of the least key from a number on, with an owner of its value, if there is one
  abbrev pub TellsLeast : ℕ → Option (K × O) → Type 0
  TellsLeast from None = NoneFrom m from
  TellsLeast from (Some r) = (k : ℕ) × (r.0 ≡ key k) × IsLeastPair m from k (value r.1)

  -- the same of the greatest key below a number
  abbrev pub TellsGreatest : ℕ → Option (K × O) → Type 0
  TellsGreatest end None = NoneBelow m end
  TellsGreatest end (Some r) = (k : ℕ) × (r.0 ≡ key k) × IsGreatestPair m end k (value r.1)

module _ {V : Type 0} (m : map.FinMap nat_cmp V) where
  -- there is a least key from a number on
  abbrev pub HasFrom : ℕ → Type 0
  HasFrom from = (k : ℕ) × (v : V) × IsLeastPair m from k v

  -- there is a greatest key below a number
  abbrev pub HasBelow : ℕ → Type 0
  HasBelow end = (k : ℕ) × (v : V) × IsGreatestPair m end k v

-- why the answer to a value that was found, if one was, isn't in the tree: no more owners of that value can be counted, or there was
-- no room for a node, and an owner of what was answered comes back. All is as it was
abbrev pub IsUncomputed : {V : Type 0} → Owners V → Owners V → ℕ → (Option (Arc V Global) → Arc V Global → Type 0) → Uncomputed V → Type 0
IsUncomputed old new key answers Count = IsSome (map.get old.pairs key) × (new ≡ old)
IsUncomputed {V} old new key answers (Refused e owner) = OwnerRefuses old new key e × (answer : Arc V Global) × answers None answer × (arc_value owner ≡ arc_value answer)
