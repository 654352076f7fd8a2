-- What a node's words say: a finite map from bytes to children, each of two words, the child word and its second. A node of values has of each
-- byte that is taken the lone leaf of the key with its value. w is the node's words by their index, and forms are numbers.
use Rattle.std.specs.Prelude.{◌≡◌, ◌≢◌, ℕ, ◌+◌, ◌*◌, ◌/◌, ◌%◌, ◌^◌, ◌<◌, ◌==◌, Bool, true, ltb, if◌then◌else◌, cond, eqb, Option, None, Some, unwrap_or, is_some, IfSome}
use Rattle.std.specs.Int.{bit_at}
use Rattle.std.specs.Ordering.{nat_cmp}
use Rattle.std.specs.FinMap as map
use Rattle.optimistic.specs.Layout.{room, entries, leaf_of, width}
use Rattle.optimistic.specs.forms.Bytes.{byte_of, with_at, HasNone}
use Rattle.optimistic.specs.forms.Held.{held, IsNode, IsPlaceFor, HasChildren}

-- whether a node of the form has children, and not values
abbrev pub is_inner : ℕ → Bool
is_inner form = ltb form 5

-- the byte of place i
abbrev pub byte_in : ℕ → (ℕ → ℕ) → ℕ → ℕ
byte_in form w i = if room form == 256 then i else byte_of (w (2 + i / 8)) (i % 8)

-- the bits of the places of a node of up to 48
abbrev pub mask_of : ℕ → (ℕ → ℕ) → ℕ
mask_of form w = if room form == 4 then w 2 / 2 ^ 32 else (if room form == 16 then w 4 else w 8)

-- 1 where place i is taken, else 0
abbrev pub taken_in : ℕ → (ℕ → ℕ) → ℕ → ℕ
taken_in form w i =
    if room form == 256 then (if is_inner form then cond (eqb (w (8 + 2 * i)) 0) 0 1 else bit_at (w (2 + i / 64)) (i % 64)) else bit_at (mask_of form w) i

-- the first word of the entry of place i, and its last
abbrev pub first_word : ℕ → ℕ → ℕ
first_word form i = entries form + (if is_inner form then 2 * i else i)

abbrev pub last_word : ℕ → ℕ → ℕ
last_word form i = entries form + (if is_inner form then 2 * i + 1 else i)

-- the node as a map from bytes to the first words of its entries, and to their last words
unfoldable pub firsts : ℕ → (ℕ → ℕ) → map.FinMap nat_cmp ℕ
firsts form w = held (byte_in form w) (taken_in form w) (λ i. w (first_word form i)) (room form)

unfoldable pub lasts : ℕ → (ℕ → ℕ) → map.FinMap nat_cmp ℕ
lasts form w = held (byte_in form w) (taken_in form w) (λ i. w (last_word form i)) (room form)

-- the child word at a byte, of a key that the node covers; 0 is none
unfoldable pub first_of : (form : ℕ) → (ℕ → ℕ) → (key byte : ℕ) → ℕ
first_of form w key byte = if is_inner form then unwrap_or (map.get (firsts form w) byte) 0 else (if is_some (map.get (firsts form w) byte) then leaf_of key else 0)

-- the second word there: a lone leaf's value, or which keys the child node covers; 0 where there is none
unfoldable pub second_of : (form : ℕ) → (ℕ → ℕ) → (key byte : ℕ) → ℕ
second_of form w key byte = unwrap_or (map.get (lasts form w) byte) 0

-- What holds of a node's words between its changes: a taken place is the lowest that has its byte, a child word is 0 where the place isn't
-- taken, and there alone; and no other place is taken
pub record IsForm (form : ℕ) (w : ℕ → ℕ) : Type 0 where
  pub node : IsNode (byte_in form w) (taken_in form w) (room form)
  pub children : is_inner form ≡ true → HasChildren (room form) (taken_in form w) (λ i. w (first_word form i))
  pub fits : room form ≢ 256 → mask_of form w < 2 ^ room form

-- the words that a look-up reads at the place that it found
abbrev pub found_first : ℕ → (ℕ → ℕ) → ℕ → Option ℕ → ℕ
found_first form w key None = 0
found_first form w key (Some p) = if is_inner form then w (first_word form p) else (if taken_in form w p == 1 then leaf_of key else 0)

abbrev pub found_second : ℕ → (ℕ → ℕ) → Option ℕ → ℕ
found_second form w None = 0
found_second form w (Some p) = w (last_word form p)

-- A look-up that found this place, or none, has the child
pub record Finds (form : ℕ) (w : ℕ → ℕ) (byte : ℕ) (r : Option ℕ) : Type 0 where
  pub first : (key : ℕ) → first_of form w key byte ≡ found_first form w key r
  pub second : (key : ℕ) → first_of form w key byte ≢ 0 → second_of form w key byte ≡ found_second form w r
  pub place : IfSome r (λ p. (p < room form) × (byte_in form w p ≡ byte))
  pub taken : (key : ℕ) → first_of form w key byte ≢ 0 → IfSome r (λ p. taken_in form w p ≡ 1)

-- the place for a byte, and that there is none
abbrev pub IsRoom : (form : ℕ) → (ℕ → ℕ) → ℕ → ℕ → Type 0
IsRoom form w byte p = IsPlaceFor (room form) (byte_in form w) (taken_in form w) byte p

abbrev pub IsFull : (form : ℕ) → (ℕ → ℕ) → ℕ → Type 0
IsFull form w byte = HasNone (room form) (byte_in form w) byte × ((i : ℕ) → i < room form → taken_in form w i ≡ 1)

-- the words with those of place p's entry written: of a node of values the second alone
abbrev pub with_entry : ℕ → (ℕ → ℕ) → ℕ → ℕ → ℕ → ℕ → ℕ
with_entry form w p x y = if is_inner form then with_at (with_at w (first_word form p) x) (last_word form p) y else with_at w (first_word form p) y

-- the words behind the first two are the same, as far as a node of this form goes
abbrev pub Same : ℕ → (ℕ → ℕ) → (ℕ → ℕ) → Type 0
Same form w v = (j : ℕ) → 1 < j → j < width form → w j ≡ v j

-- The node after one byte's child became these words, and every other byte's stayed
pub record Becomes (form : ℕ) (w w' : ℕ → ℕ) (byte : ℕ) (x : ℕ → ℕ) (y : ℕ) : Type 0 where
  pub form_stays : IsForm form w'
  pub first : (key : ℕ) → first_of form w' key byte ≡ x key
  pub second : (key : ℕ) → second_of form w' key byte ≡ y
  pub other_firsts : (key b : ℕ) → b ≢ byte → first_of form w' key b ≡ first_of form w key b
  pub other_seconds : (key b : ℕ) → b ≢ byte → second_of form w' key b ≡ second_of form w key b

-- the first word that a put gives: the child word, or the lone leaf
abbrev pub put_first : ℕ → ℕ → ℕ → ℕ
put_first form x key = if is_inner form then x else leaf_of key

-- the words with the child word of place p's entry cleared, if it has one
abbrev pub without_entry : ℕ → (ℕ → ℕ) → ℕ → ℕ → ℕ
without_entry form w p = if is_inner form then with_at w (first_word form p) 0 else w

-- nodes that have the same children
pub record Alike (f : ℕ) (w : ℕ → ℕ) (g : ℕ) (v : ℕ → ℕ) : Type 0 where
  pub firsts_same : (key byte : ℕ) → first_of g v key byte ≡ first_of f w key byte
  pub seconds_same : (key byte : ℕ) → second_of g v key byte ≡ second_of f w key byte
