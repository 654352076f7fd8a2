-- A node of a form, with a prefix and children.
use Rattle.std.specs.Prelude.{ℕ, List}
use Rattle.std.specs.Ordering.{nat_cmp}
use Rattle.std.specs.FinMap.{FinMap}
use denote.RawPtr.{null_ptr}
use Rattle.congee.specs.declared.forms.base_node.Node.{Node}
use Rattle.congee.specs.declared.forms.base_node.Node.TheVariants.{N4, N16, N48, N256}
use Rattle.congee.specs.declared.forms.base_node.NodeType.{NodeType}
use Rattle.congee.specs.declared.forms.base_node.NodeType.TheVariants.{N4 as T4, N16 as T16, N48 as T48, N256 as T256}
use Rattle.congee.specs.declared.forms.child.Child.{Child}

module _ {P : Type 0} where
  -- the node of a form, a prefix and children; where it lies in memory isn't told
  abbrev pub laid_node : NodeType → List ℕ → FinMap nat_cmp (Child ℕ P) → Node ℕ P
  laid_node T4 prefix children = N4 (record { prefix = prefix; children = children })
  laid_node T16 prefix children = N16 (record { ptr = null_ptr; alloc = record { memory = record { seal = tt } }; value = record { prefix = prefix; children = children } })
  laid_node T48 prefix children = N48 (record { ptr = null_ptr; alloc = record { memory = record { seal = tt } }; value = record { prefix = prefix; children = children } })
  laid_node T256 prefix children = N256 (record { ptr = null_ptr; alloc = record { memory = record { seal = tt } }; value = record { prefix = prefix; children = children } })
