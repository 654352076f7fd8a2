-- A node's only child beside a key's goes up in the node's place.
use Rattle.std.specs.Prelude.{◌≡◌, ◌≢◌, ℕ, true, None, Some}
use Rattle.optimistic.specs.Layout.{byte_at, leaf_of}
use Rattle.optimistic.specs.declared.moves.Item.{Item}
use Rattle.optimistic.specs.declared.tree.place.Place.{Place}
use Rattle.optimistic.specs.declared.words.rule.Note.{Note}
use Rattle.optimistic.specs.declared.words.rule.View.{View}
use Rattle.optimistic.specs.words.Calls.{entry_of}
use Rattle.optimistic.specs.Moves.{words_of}
use Rattle.optimistic.specs.forms.Children.{is_inner}
use Rattle.optimistic.specs.forms.Copies.{IsOnly}
use Rattle.optimistic.specs.tree.Exchanges.{IsBelow}

-- the words of an entry where it is a child of a node above: of a node of values, some lone leaf with the value
pub record IsRisen (n : Place) (e : Item) (c x : ℕ) : Type 0 where
  pub first : is_inner n.form ≡ true → c ≡ e.first
  pub leaf : is_inner n.form ≢ true → (k : ℕ) × (c ≡ leaf_of k)
  pub second : x ≡ e.last

-- a child of these words may go up from node n: it is the only one beside the key's, and has only keys that go to its byte
pub record Rises (n : Place) (key c x : ℕ) (v : View) : Type 0 where
  pub entry : Item
  pub only : IsOnly n.form (words_of v n.node) (byte_at key n.level) entry
  pub words : IsRisen n entry c x
  pub below : IsBelow n key entry.byte c x

-- what the hand says as it lets the node above go
abbrev pub lifted_note : ℕ → ℕ → Note
lifted_note n key = record { first = Some n; second = None; third = None; entry = Some (entry_of 0 key None); form = 0 }
