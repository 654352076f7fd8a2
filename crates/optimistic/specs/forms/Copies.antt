-- A node that is made of another one's children, and a node that has one child beside a byte's.
use Rattle.std.specs.Prelude.{◌≡◌, ◌≢◌, ℕ, ◌<◌, ◌⊎◌, Option, None, Some}
use Rattle.optimistic.specs.Layout.{room, leaf_of}
use Rattle.optimistic.specs.Moves.{IsItem}
use Rattle.optimistic.specs.declared.moves.Item.{Item}
use Rattle.optimistic.specs.forms.Children.{byte_in, taken_in, first_of, second_of, IsForm, put_first}

-- node g of the words v has the children of node f of the words w, but this one at this byte
pub record Copies (f : ℕ) (w : ℕ → ℕ) (g : ℕ) (v : ℕ → ℕ) (byte : ℕ) (x : ℕ → ℕ) (y : ℕ) : Type 0 where
  pub form_new : IsForm g v
  pub first : (key : ℕ) → first_of g v key byte ≡ x key
  pub second : (key : ℕ) → second_of g v key byte ≡ y
  pub other_firsts : (key b : ℕ) → b ≢ byte → first_of g v key b ≡ first_of f w key b
  pub other_seconds : (key b : ℕ) → b ≢ byte → second_of g v key b ≡ second_of f w key b

-- the two words of a key's lone leaf with a value; of none, where it has no value
abbrev pub own_first : Option ℕ → ℕ → ℕ
own_first None key = 0
own_first (Some x) key = leaf_of key

abbrev pub own_second : Option ℕ → ℕ
own_second None = 0
own_second (Some x) = x

-- the first word that keys see at its byte, at a node of a form that has it
abbrev pub given_first : ℕ → Option ℕ → ℕ → ℕ → ℕ
given_first form None key k = 0
given_first form (Some x) key k = put_first form (leaf_of key) k

-- e is the entry of one place of a node, and the other places that are taken have the byte
pub record IsOnly (form : ℕ) (w : ℕ → ℕ) (byte : ℕ) (e : Item) : Type 0 where
  pub place : ℕ
  pub inside : place < room form
  pub item : IsItem form w place e
  pub apart : e.byte ≢ byte
  pub others : (q : ℕ) → q < room form → taken_in form w q ≡ 1 → (byte_in form w q ≡ byte) ⊎ (q ≡ place)

-- one more entry: what is found after it is it, if nothing was found and it isn't of the byte; or else what was
abbrev pub IsNext : Option Item → Option Item → ℕ → Option Item → Type 0
IsNext found item byte r = ((r ≡ found) × ((e : Item) → item ≡ Some e → e.byte ≡ byte)) ⊎ ((found ≡ None) × (e : Item) × (item ≡ Some e) × (e.byte ≢ byte) × (r ≡ Some e))
