-- Nodes that give place to lesser ones, or lose a child.
use Rattle.std.specs.Prelude.{◌≡◌, ◌≢◌, ℕ, ◌+◌, ◌≤◌, ◌<◌, ◌⊎◌, Bool, true, false, List, length, slice_index, Option, None, Some}
use Rattle.std.specs.FinMap as map
use Rattle.slab.specs.Slab.{Updates, get}
use Rattle.congee.specs.Heap.{value_at}
use Rattle.congee.specs.forms.Forms.{Becomes, children_of, form_of, prefix_of, size_of}
use Rattle.congee.specs.owned.Arena.{Nodes, IsTree, heap_of}
use Rattle.congee.specs.owned.Going.{Lesser}
use Rattle.congee.specs.owned.Sizes.{bytes_of}
use Rattle.congee.specs.protocol.Steps.{form_below}
use Rattle.congee.specs.declared.forms.base_node.Node.{Node}
use Rattle.congee.specs.declared.forms.base_node.NodeType.{NodeType}
use Rattle.congee.specs.declared.forms.base_node.NodeType.TheVariants.{N4}
use Rattle.congee.specs.declared.owned.arena.Arena.{Arena}
use Rattle.congee.specs.declared.owned.slots.Slot.{Slot}
use Rattle.congee.specs.declared.owned.slots.Slot.TheVariants.{Inner, Leaf}

-- the node as before in the form below
pub record IsShrunk {C P : Type 0} (old new : Node C P) : Type 0 where
  pub form : form_of new ≡ form_below (form_of old)
  pub prefix : prefix_of new ≡ prefix_of old
  pub children : children_of new ≡ children_of old

module _ {P : Type 0} where
  -- the same of the node in a slot
  abbrev pub Shrunk : {K : Type 0} → Slot P K → Slot P K → Type 0
  Shrunk (Inner n) (Inner m) = IsShrunk n m
  Shrunk (Leaf n) (Leaf m) = IsShrunk n m
  Shrunk (Inner n) (Leaf m) = ⊥
  Shrunk (Leaf n) (Inner m) = ⊥

  -- node x takes the form below
  pub record ShrinksTo (s s' : Nodes P) (at : ℕ) (x : Node ℕ P) : Type 0 where
    pub node : Node ℕ P
    pub shrunk : IsShrunk x node
    pub updates : Updates s s' at (Some node)

  -- the nodes are a tree with the same map
  pub record SameMap (s s' : Nodes P) : Type 0 where
    pub tree : IsTree s'
    pub values : (key : List ℕ) → length key ≡ 8 → value_at (heap_of s') key ≡ value_at (heap_of s) key

  -- the node `above` loses the child at the key's byte, the leaf `at`, which goes; all others stand as they did
  pub record LosesChild (s s' : Nodes P) (key : List ℕ) (above at : ℕ) : Type 0 where
    pub old : Node ℕ P
    pub new : Node ℕ P
    pub was : get s above ≡ Some old
    pub now : get s' above ≡ Some new
    pub becomes : Becomes old new (map.remove (children_of old) (slice_index key (length (prefix_of old))))
    pub left : get s' at ≡ None
    pub others : (m : ℕ) → m ≢ above → m ≢ at → get s' m ≡ get s m

module _ {A : Type 0} (charged limit : A → ℕ) (old new : A) where
  -- a lesser node is charged, if one comes and it fits
  abbrev pub ChargesLesser : Option Lesser → Bool → Type 0
  ChargesLesser None true = ⊥
  ChargesLesser None false = charged new ≡ charged old
  ChargesLesser (Some l) true = (charged new ≡ charged old + l.made) × (charged old + l.made ≤ limit old)
  ChargesLesser (Some l) false = (charged new ≡ charged old) × (limit old < charged old + l.made)

  -- that is charged, and the limit stays
  pub record Charges (lesser : Option Lesser) (result : Bool) : Type 0 where
    pub charges : ChargesLesser lesser result
    pub same_limit : limit new ≡ limit old

-- a node of the form gave place to one of the form below, which was charged before, and its own charge went; or memory was
-- refused, which the least form doesn't want, and the charge of the lesser one went
abbrev pub Lessens : {P A K : Type 0} → (A → ℕ) → Arena P A K → Arena P A K → NodeType → Type 0
Lessens charged old new form =
    ((charged new.allocator + size_of form ≡ charged old.allocator) × (bytes_of new.nodes + size_of form ≡ bytes_of old.nodes + size_of (form_below form)))
    ⊎ ((charged new.allocator + size_of (form_below form) ≡ charged old.allocator) × (bytes_of new.nodes ≡ bytes_of old.nodes) × (form_below form ≢ N4))
