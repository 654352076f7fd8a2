-- A node that is made of another's entries, place by place.
use Rattle.std.specs.Prelude.{◌≡◌, ℕ, if◌then◌else◌, unwrap_or, is_some}
use Rattle.std.specs.Ordering.{nat_cmp}
use Rattle.std.specs.FinMap as map
use Rattle.optimistic.specs.Layout.{leaf_of}
use Rattle.optimistic.specs.forms.Held.{held}
use Rattle.optimistic.specs.forms.Children.{is_inner, byte_in, taken_in, first_word, last_word, first_of, second_of, IsForm}

-- what a node's first i places hold: the first words of their entries, and the last
abbrev pub firsts_to : ℕ → (ℕ → ℕ) → ℕ → map.FinMap nat_cmp ℕ
firsts_to form w i = held (byte_in form w) (taken_in form w) (λ q. w (first_word form q)) i

abbrev pub lasts_to : ℕ → (ℕ → ℕ) → ℕ → map.FinMap nat_cmp ℕ
lasts_to form w i = held (byte_in form w) (taken_in form w) (λ q. w (last_word form q)) i

-- A node g of the words v has the children that the first i places of the node of the words w have
pub record HasPart (form : ℕ) (w : ℕ → ℕ) (i g : ℕ) (v : ℕ → ℕ) : Type 0 where
  pub firsts_same : (key byte : ℕ) → first_of g v key byte ≡ (if is_inner form then unwrap_or (map.get (firsts_to form w i) byte) 0 else (if is_some (map.get (firsts_to form w i) byte) then leaf_of key else 0))
  pub seconds_same : (key byte : ℕ) → second_of g v key byte ≡ unwrap_or (map.get (lasts_to form w i) byte) 0

-- a node without entries
pub record IsEmpty (form : ℕ) (v : ℕ → ℕ) : Type 0 where
  pub form_is : IsForm form v
  pub none : (key byte : ℕ) → (first_of form v key byte ≡ 0) × (second_of form v key byte ≡ 0)
