-- The keys of an owned tree are numbers.
use Rattle.std.specs.Prelude.{◌≡◌, ℕ, ◌<◌, ◌^◌, List, length, IsSome}
use Rattle.congee.specs.Heap.{value_at}
use Rattle.congee.specs.Keys.{key_bytes}
use Rattle.congee.specs.owned.Arena.{Nodes, heap_of}
use Rattle.congee.specs.declared.keys.TheConstants.{KEY_BYTES}

-- a key has the bytes of a number of 64 bits
pub record IsNumber (key : List ℕ) : Type 0 where
  pub number : ℕ
  pub small : number < 2 ^ 64
  pub bytes : key ≡ key_bytes number

-- each key that has a value is a number's
abbrev pub IsKeyed : {P : Type 0} → Nodes P → Type 0
IsKeyed s = (key : List ℕ) → length key ≡ KEY_BYTES → IsSome (value_at (heap_of s) key) → IsNumber key
