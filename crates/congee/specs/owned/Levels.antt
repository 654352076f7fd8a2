-- The nodes of an owned tree, each with its level.
use Rattle.std.specs.Prelude.{ℕ, zero, suc, ◌+◌, List, [], ◌∷◌, ◌++◌, length, Option, None, Some}
use Rattle.std.specs.FinMap as map
use Rattle.slab.specs.Slab.{get}
use Rattle.congee.specs.Heap.{Hung, Nothing, Below, Holds}
use Rattle.congee.specs.owned.Arena.{Nodes, hung_in}
use Rattle.congee.specs.forms.Forms.{form_of, prefix_of, children_of}
use Rattle.congee.specs.owned.Stats.{Shape}
use Rattle.congee.specs.declared.forms.base_node.Node.{Node as Form}
use Rattle.congee.specs.declared.keys.TheConstants.{KEY_BYTES}

module _ {P : Type 0} where
  -- a node on a level as statistics see it
  abbrev pub shape_of : ℕ → Form ℕ P → Shape
  shape_of level x = record { level = level; form = form_of x; prefix = length (prefix_of x); children = map.len (children_of x) }

  -- what `go` gives for the node that hangs at a byte, if one does
  abbrev pub under_byte : (ℕ → List Shape) → Hung P → List Shape
  under_byte go Nothing = []
  under_byte go (Below c) = go c
  under_byte go (Holds v) = []

  -- the same at all bytes below a bound
  unfoldable pub under_bytes : (ℕ → List Shape) → (ℕ → Hung P) → ℕ → List Shape
  under_bytes go children zero = []
  under_bytes go children (suc b) = under_bytes go children b ++ under_byte go (children b)

  -- a node, if there is one, before those below it
  abbrev pub with_node : (ℕ → List Shape) → ℕ → Option (Form ℕ P) → List Shape
  with_node go level None = []
  with_node go level (Some x) = shape_of level x ∷ under_bytes go (λ b. hung_in (map.get (children_of x) b)) 256

  -- a node on a level and the nodes below it, each node's a level further, over so many levels at most
  unfoldable pub nodes_from : (ℕ → Option (Form ℕ P)) → ℕ → ℕ → ℕ → List Shape
  nodes_from s zero level n = []
  nodes_from s (suc f) level n = with_node (λ c. nodes_from s f (level + 1) c) level (s n)

  -- the nodes of a tree: the root on level 0, and all below it
  unfoldable pub nodes_of : Nodes P → List Shape
  nodes_of s = nodes_from (get s) KEY_BYTES 0 0
