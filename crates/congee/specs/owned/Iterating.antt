-- The keys that an iterator goes over, by their words.
use Rattle.std.specs.Prelude.{◌≡◌, ℕ, ◌+◌, ◌^◌, ◌≤◌, Option, None, Some, IsSome}
use Rattle.std.specs.Ordering.{nat_cmp}
use Rattle.std.specs.FinMap as map
use Rattle.std.specs.declared.ops.Bound.{Bound}
use Rattle.std.specs.declared.ops.Bound.TheVariants.{Included, Excluded, Unbounded}

module _ {K : Type 0} (word : K → ℕ) where
  -- the least number that a lower bound lets in
  abbrev pub first_in : Bound K → ℕ
  first_in (Included k) = word k
  first_in (Excluded k) = word k + 1
  first_in Unbounded = 0

  -- the least number past an upper bound
  abbrev pub first_past : Bound K → ℕ
  first_past (Included k) = word k + 1
  first_past (Excluded k) = word k
  first_past Unbounded = 2 ^ 64

-- the least number that a bound lets in, if it has 64 bits
abbrev pub IsFirstIn : Option ℕ → ℕ → Type 0
IsFirstIn None n = 2 ^ 64 ≤ n
IsFirstIn (Some k) n = k ≡ n

-- the greatest number before another, if there is one
abbrev pub IsLastBefore : Option ℕ → ℕ → Type 0
IsLastBefore None n = n ≡ 0
IsLastBefore (Some k) n = k + 1 ≡ n

-- each key of a map is the word of one that there can be, as where no others were put in
abbrev pub AreWords : {K X : Type 0} → (K → Type 0) → (K → ℕ) → map.FinMap nat_cmp X → Type 0
AreWords {K} fits word m = (q : ℕ) → IsSome (map.get m q) → (k : K) × fits k × (word k ≡ q)
