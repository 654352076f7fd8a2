-- The room that the nodes of an arena take.
use Rattle.std.specs.Prelude.{ℕ, ◌+◌, List, [], ◌∷◌, Option, None, Some}
use Rattle.congee.specs.forms.Forms.{form_of, size_of}
use Rattle.congee.specs.owned.Arena.{Nodes}
use Rattle.congee.specs.declared.forms.base_node.Node.{Node}

module _ {P : Type 0} where
  -- the size of what stands at a place, in bytes
  abbrev pub bytes_at : Option (Node ℕ P) → ℕ
  bytes_at None = 0
  bytes_at (Some n) = size_of (form_of n)

  -- the sizes of what stands in a list of places
  abbrev pub bytes_in : List (Option (Node ℕ P)) → ℕ
  bytes_in [] = 0
  bytes_in (o ∷ r) = bytes_at o + bytes_in r

  -- the sum of the sizes of all nodes
  abbrev pub bytes_of : Nodes P → ℕ
  bytes_of s = bytes_in s.slots
