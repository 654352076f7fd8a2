-- A change of one node.
use Rattle.std.specs.Prelude.{◌≡◌, ℕ, ◌+◌, ◌<◌, ◌≤◌, false, cond, List, Option, Some, None}
use Rattle.std.specs.Ordering.{nat_cmp}
use Rattle.std.specs.FinMap as map
use Rattle.slab.specs.Slab.{Updates, get}
use Rattle.congee.specs.forms.Forms.{Becomes, capacity_of, form_of, prefix_of, children_of, is_full_of, next_form}
use Rattle.congee.specs.Heap.{Holds, child_for}
use Rattle.congee.specs.owned.Arena.{Nodes, heap_of}
use Rattle.congee.specs.declared.forms.base_node.Node.{Node}
use Rattle.congee.specs.declared.forms.base_node.NodeType.TheVariants.{N4}
use Rattle.congee.specs.declared.allocator.OOMError.{OOMError}
use Rattle.congee.specs.declared.allocator.OOMError.TheVariants.{Budget, Memory}
use Rattle.congee.specs.declared.forms.child.Child.{Child}

-- node x at this name gets these children
pub record Sets {P : Type 0} (s s' : Nodes P) (at : ℕ) (x : Node ℕ P) (children : map.FinMap nat_cmp (Child ℕ P)) : Type 0 where
  pub node : Node ℕ P
  pub becomes : Becomes x node children
  pub updates : Updates s s' at (Some node)

-- a least node without children comes in under a name that was free
pub record Makes {P : Type 0} (s s' : Nodes P) (name : ℕ) (prefix : List ℕ) : Type 0 where
  pub node : Node ℕ P
  pub form : form_of node ≡ N4
  pub prefixed : prefix_of node ≡ prefix
  pub children : children_of node ≡ map.empty
  pub vacant : get s name ≡ None
  pub updates : Updates s s' name (Some node)

-- every name has the node that it had
abbrev pub SameNodes : {P : Type 0} → Nodes P → Nodes P → Type 0
SameNodes s s' = (name : ℕ) → get s' name ≡ get s name

-- node x gets room for one more child, in the next form if it is full; one of 256 places keeps them
pub record MakesRoom {P : Type 0} (s s' : Nodes P) (at : ℕ) (x : Node ℕ P) : Type 0 where
  pub node : Node ℕ P
  pub prefixed : prefix_of node ≡ prefix_of x
  pub children : children_of node ≡ children_of x
  pub form : form_of node ≡ cond (is_full_of x) (next_form (form_of x)) (form_of x)
  pub room : is_full_of node ≡ false
  pub wide : capacity_of (form_of x) ≡ 256 → capacity_of (form_of node) ≡ 256
  pub updates : Updates s s' at (Some node)

-- why a node of so many bytes was refused: it doesn't fit the budget, or it does and there is no memory
abbrev pub IsRefusal : ℕ → ℕ → ℕ → OOMError → Type 0
IsRefusal charged wanted limit Memory = charged + wanted ≤ limit
IsRefusal charged wanted limit (Budget c w l) = (c ≡ charged) × (w ≡ wanted) × (l ≡ limit) × (limit < charged + wanted)

-- a node that was made with this prefix, and has no children yet
pub record FreshNode {P : Type 0} (s : Nodes P) (name : ℕ) (prefix : List ℕ) : Type 0 where
  pub node : Node ℕ P
  pub stands : get s name ≡ Some node
  pub form : form_of node ≡ N4
  pub prefixed : prefix_of node ≡ prefix
  pub children : children_of node ≡ map.empty

-- a node has a value for the key
pub record IsHeld {P : Type 0} (s : Nodes P) (key : List ℕ) (at : ℕ) : Type 0 where
  pub value : P
  pub holds : child_for (heap_of s at) key ≡ Holds value

-- what stands at a key after an answer for a present key alone
abbrev pub settled : {P : Type 0} → Option P → Option P → Option P
settled None new = None
settled (Some old) new = new
