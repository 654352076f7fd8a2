-- Bytes that fit a key begin one.
use Rattle.std.specs.Prelude.{◌≡◌, ℕ, true, List}
use Rattle.congee.specs.Heap.{fits}
use Rattle.congee.specs.Keys.{key_bytes}
use Rattle.congee.specs.Notes.{BeginsKey}

-- a prefix that fits a key begins one
pub begins_key : (p : List ℕ) (k : ℕ) → fits p (key_bytes k) ≡ true → BeginsKey p
unfolding BeginsKey
begins_key p k e = (k, e)
