-- Words that stand for keys and values, and what stands for a word.
use Rattle.std.specs.Prelude.{◌≡◌, ℕ, suc, ◌+◌, ◌-◌, ◌*◌, ◌^◌, ◌<◌, Bool, true, false, cond, ltb, List, length, slice_index}
use Rattle.std.specs.Prelude.{ℤ, pos, negsuc}
use lib.Utf8.{scalar}

-- a signed number as how far it is above the least one, which is `half` below 0: its bits with the sign's bit flipped
abbrev pub above_least : ℕ → ℤ → ℕ
above_least half (pos n) = half + n
above_least half (negsuc n) = half - suc n

-- the number that is so far above the least one
abbrev pub from_least : ℕ → ℕ → ℤ
from_least half n = cond (ltb n half) (negsuc (half - suc n)) (pos (n - half))

-- a truth value as 1 or 0
abbrev pub bit_of : Bool → ℕ
bit_of true = 1
bit_of false = 0

-- two numbers of 32 bits in one word, the first in the higher bits
abbrev pub joined : ℕ → ℕ → ℕ
joined high low = high * 2 ^ 32 + low

-- eight numbers of a byte each
pub record AreBytes (xs : List ℕ) : Type 0 where
  pub eight : length xs ≡ 8
  pub small : (i : ℕ) → slice_index xs i < 256

-- a character of a word: the one with that code, or the one of code 0 where no character has it
abbrev pub char_of : ℕ → ℕ
char_of n = cond (scalar n) n 0
