-- The pairs of a finite map from keys next to a number.
use Rattle.std.specs.Prelude.{◌≡◌, ℕ, ◌<◌, ◌≤◌, Option, None, Some}
use Rattle.std.specs.Ordering.{nat_cmp}
use Rattle.std.specs.FinMap as map

-- k is the least key from a number on, and v its value
pub record IsLeastPair {X : Type 0} (m : map.FinMap nat_cmp X) (from k : ℕ) (v : X) : Type 0 where
  pub past : from ≤ k
  pub here : map.get m k ≡ Some v
  pub before : (q : ℕ) → from ≤ q → q < k → map.get m q ≡ None

-- k is the greatest key below a number, and v its value
pub record IsGreatestPair {X : Type 0} (m : map.FinMap nat_cmp X) (end k : ℕ) (v : X) : Type 0 where
  pub below : k < end
  pub here : map.get m k ≡ Some v
  pub after : (q : ℕ) → k < q → q < end → map.get m q ≡ None

-- no key from a number on has a value
abbrev pub NoneFrom : {X : Type 0} → map.FinMap nat_cmp X → ℕ → Type 0
NoneFrom m from = (q : ℕ) → from ≤ q → map.get m q ≡ None

-- no key below a number has a value
abbrev pub NoneBelow : {X : Type 0} → map.FinMap nat_cmp X → ℕ → Type 0
NoneBelow m end = (q : ℕ) → q < end → map.get m q ≡ None

-- the pair of the least key from a number on, if there is one
abbrev pub IsLeast : {X : Type 0} → map.FinMap nat_cmp X → ℕ → Option (ℕ × X) → Type 0
IsLeast m from None = NoneFrom m from
IsLeast m from (Some pair) = IsLeastPair m from pair.0 pair.1

-- the pair of the greatest key below a number, if there is one
abbrev pub IsGreatest : {X : Type 0} → map.FinMap nat_cmp X → ℕ → Option (ℕ × X) → Type 0
IsGreatest m end None = NoneBelow m end
IsGreatest m end (Some pair) = IsGreatestPair m end pair.0 pair.1

-- no key from one number on to another has a value
abbrev pub NoneIn : {X : Type 0} → map.FinMap nat_cmp X → ℕ → ℕ → Type 0
NoneIn m start end = (q : ℕ) → start ≤ q → q < end → map.get m q ≡ None

-- the pair of the least key from one number on to another, which isn't in it, if there is one
abbrev pub IsLeastIn : {X : Type 0} → map.FinMap nat_cmp X → ℕ → ℕ → Option (ℕ × X) → Type 0
IsLeastIn m start end None = NoneIn m start end
IsLeastIn m start end (Some pair) = IsLeastPair m start pair.0 pair.1 × (pair.0 < end)

-- the pair of the greatest one
abbrev pub IsGreatestIn : {X : Type 0} → map.FinMap nat_cmp X → ℕ → ℕ → Option (ℕ × X) → Type 0
IsGreatestIn m start end None = NoneIn m start end
IsGreatestIn m start end (Some pair) = IsGreatestPair m end pair.0 pair.1 × (start ≤ pair.0)

-- a pair as what stands for its numbers
abbrev pub pair_by : {K V : Type 0} → (ℕ → K) → (ℕ → V) → ℕ × ℕ → K × V
pair_by key value pair = (key pair.0, value pair.1)

-- its key alone, and its value
abbrev pub key_by : {K X : Type 0} → (ℕ → K) → ℕ × X → K
key_by key pair = key pair.0

abbrev pub value_by : {V : Type 0} → (ℕ → V) → ℕ × ℕ → V
value_by value pair = value pair.1

-- each number comes back from what stands for it, as it does where that is the number itself
abbrev pub ComesBack : {K : Type 0} → (K → ℕ) → (ℕ → K) → Type 0
ComesBack word of_word = (n : ℕ) → word (of_word n) ≡ n

module _ {K V : Type 0} (key : K → ℕ) (value : V → ℕ) where
  -- an answer in the caller's words is the pair of the least key from a number on, if there is one
  abbrev pub IsLeastAs : map.FinMap nat_cmp ℕ → ℕ → Option (K × V) → Type 0
  IsLeastAs m from None = NoneFrom m from
  IsLeastAs m from (Some pair) = IsLeastPair m from (key pair.0) (value pair.1)

  -- the same of the greatest key below a number
  abbrev pub IsGreatestAs : map.FinMap nat_cmp ℕ → ℕ → Option (K × V) → Type 0
  IsGreatestAs m end None = NoneBelow m end
  IsGreatestAs m end (Some pair) = IsGreatestPair m end (key pair.0) (value pair.1)
