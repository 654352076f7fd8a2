-- Bytes that rise, in an array that is filled up with 255.
use Rattle.std.specs.Prelude.{◌≡◌, ◌<◌, ◌≤◌, ◌+◌, ℕ, List, length, get_or}

-- of n bytes the first count, and the others are 255
pub record IsPadded (n : ℕ) (bytes : List ℕ) (len : ℕ) : Type 0 where
  pub narrow : n < 256
  pub fits : len ≤ n
  pub low : (i : ℕ) → get_or bytes i 0 < 256
  pub padded : (i : ℕ) → len ≤ i → i < n → get_or bytes i 0 ≡ 255

-- no byte is greater than one after it
abbrev pub IsOrdered : List ℕ → Type 0
IsOrdered bs = (i j : ℕ) → i < j → j < length bs → get_or bs i 0 ≤ get_or bs j 0

-- each byte is less than those after it
abbrev pub IsRising : List ℕ → Type 0
IsRising bs = (i j : ℕ) → i < j → j < length bs → get_or bs i 0 < get_or bs j 0

-- b stands in a place, and is the greatest byte below `end`: the one after it isn't below
pub record IsLastIn (bs : List ℕ) (end b : ℕ) : Type 0 where
  pub place : ℕ
  pub within : place < length bs
  pub is : get_or bs place 0 ≡ b
  pub below : b < end
  pub after : place + 1 < length bs → end ≤ get_or bs (place + 1) 0
