-- Children by byte, beside a mask of bits.
use Rattle.std.specs.Prelude.{◌≡◌, ℕ, ◌+◌, ◌/◌, ◌%◌, ◌<◌, ◌≢◌, cond, eqb, List, [], ◌∷◌, length, get_or, Option, None, Some}
use Rattle.std.specs.Int.{bit_at}
use Rattle.std.specs.Ordering.{nat_cmp}
use Rattle.std.specs.FinMap.{FinMap, len}
use Rattle.congee.specs.forms.Places.{children_by}

-- the bit of byte b: bit b % 8 of mask byte b / 8
abbrev pub bit_of : List ℕ → ℕ → ℕ
bit_of mask b = bit_at (get_or mask (b / 8) 0) (b % 8)

-- `new` is `old` with bit n at byte b
pub record SetAt (old : List ℕ) (b n : ℕ) (new : List ℕ) : Type 0 where
  pub size : length new ≡ length old
  pub here : bit_of new b ≡ n
  pub others : (q : ℕ) → q < 256 → q ≢ b → bit_of new q ≡ bit_of old q

-- the children from byte b on whose bits are set
abbrev pub masked : {X : Type 0} → List ℕ → ℕ → List X → List (Option X)
masked mask b [] = []
masked mask b (x ∷ r) = cond (eqb (bit_of mask b) 1) (Some x) None ∷ masked mask (b + 1) r

-- the map from bytes to children that a mask and its places hold
abbrev pub masked_map : {X : Type 0} → List ℕ → List X → FinMap nat_cmp X
masked_map mask xs = children_by (masked mask 0 xs)

-- there are 256 places with a bit each, and so many children
pub record IsMasked {X : Type 0} (count : ℕ) (mask : List ℕ) (xs : List X) : Type 0 where
  pub size : length mask ≡ 32
  pub places : length xs ≡ 256
  pub counted : len (masked_map mask xs) ≡ count
