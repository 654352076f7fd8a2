-- A node as contracts see it: a form, a prefix, and a finite map from bytes to children.
use Rattle.std.specs.Prelude.{◌≡◌, ℕ, Bool, false, ◌==◌, List}
use Rattle.std.specs.Ordering.{nat_cmp}
use Rattle.std.specs.FinMap.{FinMap, len}
use Rattle.congee.specs.declared.forms.child.Child.{Child}
use Rattle.congee.specs.declared.forms.base_node.NodeType.{NodeType}
use Rattle.congee.specs.declared.forms.base_node.NodeType.TheVariants.{N4 as T4, N16 as T16, N48 as T48, N256 as T256}
use Rattle.congee.specs.declared.forms.base_node.Node.{Node}
use Rattle.congee.specs.declared.forms.base_node.Node.TheVariants.{N4, N16, N48, N256}

-- how many children a node of the form can have
abbrev pub capacity_of : NodeType → ℕ
capacity_of T4 = 4
capacity_of T16 = 16
capacity_of T48 = 48
capacity_of T256 = 256

-- what a node of the form is charged, in bytes
abbrev pub size_of : NodeType → ℕ
size_of T4 = 64
size_of T16 = 168
size_of T48 = 672
size_of T256 = 2104

-- the form that a full node grows to
abbrev pub next_form : NodeType → NodeType
next_form T4 = T16
next_form T16 = T48
next_form T48 = T256
next_form T256 = T256

module _ {C P : Type 0} where
  -- a node's form
  abbrev pub form_of : Node C P → NodeType
  form_of (N4 n) = T4
  form_of (N16 n) = T16
  form_of (N48 n) = T48
  form_of (N256 n) = T256

  -- the first bytes of every key below the node
  abbrev pub prefix_of : Node C P → List ℕ
  prefix_of (N4 n) = n.prefix
  prefix_of (N16 n) = n.value.prefix
  prefix_of (N48 n) = n.value.prefix
  prefix_of (N256 n) = n.value.prefix

  -- its children by their bytes
  abbrev pub children_of : Node C P → FinMap nat_cmp (Child C P)
  children_of (N4 n) = n.children
  children_of (N16 n) = n.value.children
  children_of (N48 n) = n.value.children
  children_of (N256 n) = n.value.children

  -- no further child fits. A node of 256 is never full
  abbrev pub is_full_of : Node C P → Bool
  is_full_of (N4 n) = len n.children == 4
  is_full_of (N16 n) = len n.value.children == 16
  is_full_of (N48 n) = len n.value.children == 48
  is_full_of (N256 n) = false

-- the node after a change of its children alone
pub record Becomes {C P : Type 0} (old new : Node C P) (m : FinMap nat_cmp (Child C P)) : Type 0 where
  pub form : form_of new ≡ form_of old
  pub prefix : prefix_of new ≡ prefix_of old
  pub children : children_of new ≡ m
