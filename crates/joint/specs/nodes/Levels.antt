-- The nodes of a shared tree, each with its level.
use Rattle.std.specs.Prelude.{◌≡◌, ℕ, zero, suc, ◌+◌, cond, nat_eq, List, [], ◌∷◌, length}
use Rattle.congee.specs.declared.forms.base_node.NodeType.{NodeType}
use Rattle.congee.specs.declared.forms.base_node.NodeType.TheVariants.{N4, N16, N48, N256}
use Rattle.congee.specs.declared.keys.TheConstants.{KEY_BYTES}
use Rattle.congee.specs.Heap.{Node}
use Rattle.congee.specs.Notes.{Linked}
use Rattle.congee.specs.owned.Levels.{under_bytes}
use Rattle.congee.specs.owned.Stats.{Shape}
use Rattle.joint.specs.nodes.Survey.{IsTree}

-- the form that has so many places
abbrev pub form_with : ℕ → NodeType
form_with n = cond (nat_eq n 4) N4 (cond (nat_eq n 16) N16 (cond (nat_eq n 48) N48 N256))

module _ {V : Type 0} where
  -- what is counted of a node on a level
  abbrev pub shape_of : ℕ → Node V → Shape
  shape_of level n = record { level = level; form = form_with n.capacity; prefix = length n.prefix; children = n.count }

  -- a node on a level and the nodes below it, each node's a level further, over so many levels at most
  unfoldable pub nodes_from : (ℕ → Node V) → ℕ → ℕ → ℕ → List Shape
  nodes_from h zero level n = []
  nodes_from h (suc f) level n = shape_of level (h n) ∷ under_bytes (λ c. nodes_from h f (level + 1) c) (h n).children 256

  -- the nodes of a tree: the root on level 0, and all below it
  unfoldable pub nodes_of : (ℕ → Node V) → List Shape
  nodes_of h = nodes_from h KEY_BYTES 0 0

-- a node in a tree
pub record IsNodeIn {V : Type 0} (h : ℕ → Node V) (n : ℕ) : Type 0 where
  pub tree : IsTree h
  pub linked : (tree.notes n).status ≡ Linked
