-- A slot's node, of either kind.
use Rattle.std.specs.Prelude.{◌≡◌, ◌<◌, ℕ, Bool, List, Option, None, Some, IsSome}
use Rattle.std.specs.Ordering.{nat_cmp}
use Rattle.std.specs.FinMap as map
use Rattle.congee.specs.forms.Forms.{Becomes, children_of, form_of, is_full_of, next_form, prefix_of}
use Rattle.congee.specs.declared.forms.base_node.Node.{Node}
use Rattle.congee.specs.declared.forms.base_node.NodeType.{NodeType}
use Rattle.congee.specs.declared.forms.child.Child.{Child}
use Rattle.congee.specs.declared.forms.child.Child.TheVariants.{Blank, Node as Sub, Value}
use Rattle.congee.specs.declared.owned.inline_leaf.Lone.{Lone}
use Rattle.congee.specs.declared.owned.slots.Slot.{Slot}
use Rattle.congee.specs.declared.owned.slots.Slot.TheVariants.{Inner, Leaf}

-- the node as before in the next greater form
pub record IsGrown {C P : Type 0} (old new : Node C P) : Type 0 where
  pub form : form_of new ≡ next_form (form_of old)
  pub prefix : prefix_of new ≡ prefix_of old
  pub children : children_of new ≡ children_of old

module _ {P : Type 0} where
  -- a value is there
  abbrev pub IsValue : Option (Child ℕ P) → Type 0
  IsValue None = ⊥
  IsValue (Some Blank) = ⊥
  IsValue (Some (Sub name)) = ⊥
  IsValue (Some (Value value)) = Unit {0}

module _ {P K : Type 0} where
  -- the prefix of the node in a slot
  abbrev pub prefix_in : Slot P K → List ℕ
  prefix_in (Inner n) = prefix_of n
  prefix_in (Leaf n) = prefix_of n

  -- its form
  abbrev pub form_in : Slot P K → NodeType
  form_in (Inner n) = form_of n
  form_in (Leaf n) = form_of n

  -- how many children it has
  abbrev pub len_in : Slot P K → ℕ
  len_in (Inner n) = map.len (children_of n)
  len_in (Leaf n) = map.len (children_of n)

  -- whether it is full
  abbrev pub full_in : Slot P K → Bool
  full_in (Inner n) = is_full_of n
  full_in (Leaf n) = is_full_of n

  -- what hangs in the node hangs at bytes
  abbrev pub HasLowBytes : Slot P K → Type 0
  HasLowBytes (Inner n) = (b : ℕ) → IsSome (map.get (children_of n) b) → b < 256
  HasLowBytes (Leaf n) = (b : ℕ) → IsSome (map.get (children_of n) b) → b < 256

  -- the slot has an inner node
  abbrev pub IsInner : Slot P K → Type 0
  IsInner (Inner n) = Unit {0}
  IsInner (Leaf n) = ⊥

  -- the slot has a leaf
  abbrev pub IsLeaf : Slot P K → Type 0
  IsLeaf (Inner n) = ⊥
  IsLeaf (Leaf n) = Unit {0}

  -- what an inner node has under a byte
  abbrev pub inner_get : Slot P K → ℕ → Option (Child ℕ (Lone P))
  inner_get (Inner n) byte = map.get (children_of n) byte
  inner_get (Leaf n) byte = None

  -- what a leaf has under a byte
  abbrev pub leaf_get : Slot P K → ℕ → Option (Child ℕ P)
  leaf_get (Inner n) byte = None
  leaf_get (Leaf n) byte = map.get (children_of n) byte

  -- the node has no children any more, and is else as before
  abbrev pub Cleared : Slot P K → Slot P K → Type 0
  Cleared (Inner n) (Inner m) = Becomes n m map.empty
  Cleared (Leaf n) (Leaf m) = Becomes n m map.empty
  Cleared (Inner n) (Leaf m) = ⊥
  Cleared (Leaf n) (Inner m) = ⊥

  -- the children alone change, as a function says
  abbrev pub InnerBecomes : Slot P K → Slot P K → (map.FinMap nat_cmp (Child ℕ (Lone P)) → map.FinMap nat_cmp (Child ℕ (Lone P))) → Type 0
  InnerBecomes (Inner n) (Inner m) f = Becomes n m (f (children_of n))
  InnerBecomes (Inner n) (Leaf m) f = ⊥
  InnerBecomes (Leaf n) m f = ⊥

  -- the same of a leaf
  abbrev pub LeafBecomes : Slot P K → Slot P K → (map.FinMap nat_cmp (Child ℕ P) → map.FinMap nat_cmp (Child ℕ P)) → Type 0
  LeafBecomes (Leaf n) (Leaf m) f = Becomes n m (f (children_of n))
  LeafBecomes (Leaf n) (Inner m) f = ⊥
  LeafBecomes (Inner n) m f = ⊥

  -- the node is as before in the form above
  abbrev pub Grown : Slot P K → Slot P K → Type 0
  Grown (Inner n) (Inner m) = IsGrown n m
  Grown (Leaf n) (Leaf m) = IsGrown n m
  Grown (Inner n) (Leaf m) = ⊥
  Grown (Leaf n) (Inner m) = ⊥
