-- The item with the lowest byte from some byte on.
use Rattle.std.specs.Prelude.{◌≡◌, ℕ, ◌<◌, ◌≤◌, Option, None, Some}
use Rattle.optimistic.specs.Layout.{room}
use Rattle.optimistic.specs.Moves.{IsItem}
use Rattle.optimistic.specs.forms.Children.{byte_in, taken_in}
use Rattle.optimistic.specs.declared.moves.Item.{Item}

-- a place has the item, and no taken one of the first n places has a lower byte that isn't below `from`
pub record IsLeastItem (form : ℕ) (w : ℕ → ℕ) (from n : ℕ) (e : Item) : Type 0 where
  pub place : ℕ
  pub inside : place < room form
  pub item : IsItem form w place e
  pub above : from ≤ e.byte
  pub least : (j : ℕ) → j < n → taken_in form w j ≡ 1 → from ≤ byte_in form w j → e.byte ≤ byte_in form w j

abbrev pub IsLeast : (form : ℕ) → (ℕ → ℕ) → (from n : ℕ) → Option Item → Type 0
IsLeast form w from n None = (j : ℕ) → j < n → taken_in form w j ≡ 1 → byte_in form w j < from
IsLeast form w from n (Some e) = IsLeastItem form w from n e
