-- What holds of an index: its free places are a list of distinct places that no byte has.
use Rattle.std.specs.Prelude.{◌≡◌, ℕ, ◌+◌, ◌<◌, ◌≤◌, ◌≢◌, List, [], ◌∷◌, length, get_or, Option, slice_get}
use Rattle.std.specs.Ordering.{nat_cmp}
use Rattle.std.specs.FinMap.{FinMap, len}
use Rattle.congee.specs.declared.forms.index.Index.{Index}
use Rattle.congee.specs.forms.Places.{children_by}

-- a byte's place
abbrev pub place_of : Index → ℕ → ℕ
place_of x b = get_or x.places b 0

-- x is none of these
abbrev pub IsNoneOf : ℕ → List ℕ → Type 0
IsNoneOf x [] = Unit {0}
IsNoneOf x (y ∷ r) = (x ≢ y) × IsNoneOf x r

-- no two are the same
abbrev pub AreDistinct : List ℕ → Type 0
AreDistinct [] = Unit {0}
AreDistinct (x ∷ r) = IsNoneOf x r × AreDistinct r

-- from the first place each names the next, and the last names 48
abbrev pub IsLinked : List ℕ → ℕ → List ℕ → Type 0
IsLinked next first [] = first ≡ 48
IsLinked next first (x ∷ r) = (first ≡ x) × (x < 48) × IsLinked next (get_or next x 0) r

-- its free places are a list of distinct ones that no byte has
pub record IsIndex (x : Index) : Type 0 where
  pub chain : List ℕ
  pub linked : IsLinked x.next x.free chain
  pub distinct : AreDistinct chain
  pub counted : length chain + x.len ≡ 48
  pub apart : (b : ℕ) → b < 256 → IsNoneOf (place_of x b) chain
  pub injective : (a b : ℕ) → a < 256 → b < 256 → place_of x a < 48 → place_of x a ≡ place_of x b → a ≡ b
  pub bounded : (b : ℕ) → b < 256 → place_of x b ≤ 48
  pub places_len : length x.places ≡ 256
  pub next_len : length x.next ≡ 48

-- the child at each byte's place, if it has one
abbrev pub at_places : {X : Type 0} → List ℕ → List X → List (Option X)
at_places [] xs = []
at_places (p ∷ r) xs = slice_get xs p ∷ at_places r xs

-- the map from bytes to children that an index and its places hold
abbrev pub indexed_map : {X : Type 0} → Index → List X → FinMap nat_cmp X
indexed_map x xs = children_by (at_places x.places xs)

-- there are 48 places, and the index counts the children
pub record IsIndexed {X : Type 0} (x : Index) (xs : List X) : Type 0 where
  pub index : IsIndex x
  pub places : length xs ≡ 48
  pub count : len (indexed_map x xs) ≡ x.len
