-- The nodes of an owned tree by their names: a node in a slot of a slab, or a leaf with one value in the place of its parent.
use Rattle.std.specs.Prelude.{ℕ, zero, suc, ◌+◌, ◌*◌, ◌/◌, ◌%◌, List, length, map, take, slice_index, slice_index_or, Option, None, Some}
use denote.RawPtr.{null_ptr}
use Rattle.std.specs.List.{range_with_len}
use Rattle.std.specs.FinMap as finite
use Rattle.slab.specs.Slab.{Slab}
use Rattle.congee.specs.forms.Forms.{children_of}
use Rattle.congee.specs.forms.Mapped.{mapped}
use Rattle.congee.specs.owned.Arena.{Nodes}
use Rattle.congee.specs.declared.forms.base_node.Node.{Node}
use Rattle.congee.specs.declared.forms.base_node.Node.TheVariants.{N4, N16, N48, N256}
use Rattle.congee.specs.declared.forms.child.Child.{Child}
use Rattle.congee.specs.declared.forms.child.Child.TheVariants.{Blank, Node as Sub, Value}
use Rattle.congee.specs.declared.owned.inline_leaf.Lone.{Lone}
use Rattle.congee.specs.declared.owned.slots.Slot.{Slot}
use Rattle.congee.specs.declared.owned.slots.Slot.TheVariants.{Inner, Leaf}
use Rattle.congee.specs.declared.forms.prefix.TheConstants.{MAX_PREFIX_LEN}

-- the name of the node in a slot; the names up to the next slot's are for leaves in the node's places
abbrev pub slot_name : ℕ → ℕ
slot_name slot = 257 * slot

-- the name of a leaf in the place under a byte of a slot's node
abbrev pub inline_name : ℕ → ℕ → ℕ
inline_name slot byte = 257 * slot + (byte + 1)

module _ {P : Type 0} where
  -- a leaf with one value, as a node of the least form
  abbrev pub lone_node : Lone P → Node ℕ P
  lone_node lone = N4 (record {
    prefix = take MAX_PREFIX_LEN lone.key;
    children = finite.insert finite.empty (slice_index lone.key MAX_PREFIX_LEN) (Value lone.value);
  })

  -- what hangs under a byte of a slot's inner node
  abbrev pub inner_child : ℕ → ℕ → Child ℕ (Lone P) → Child ℕ P
  inner_child slot byte Blank = Blank
  inner_child slot byte (Sub below) = Sub (slot_name below)
  inner_child slot byte (Value lone) = Sub (inline_name slot byte)

  -- and of a leaf
  abbrev pub leaf_child : ℕ → Child ℕ P → Child ℕ P
  leaf_child byte Blank = Blank
  leaf_child byte (Sub below) = Sub (slot_name below)
  leaf_child byte (Value value) = Value value

module _ {P Q : Type 0} where
  -- a node with each child changed by its byte; where it lies in memory isn't told
  abbrev pub with_children : (ℕ → Child ℕ P → Child ℕ Q) → Node ℕ P → Node ℕ Q
  with_children f (N4 n) = N4 (record { prefix = n.prefix; children = mapped f n.children })
  with_children f (N16 n) = N16 (record { ptr = null_ptr; alloc = record { memory = record { seal = tt } }; value = record { prefix = n.value.prefix; children = mapped f n.value.children } })
  with_children f (N48 n) = N48 (record { ptr = null_ptr; alloc = record { memory = record { seal = tt } }; value = record { prefix = n.value.prefix; children = mapped f n.value.children } })
  with_children f (N256 n) = N256 (record { ptr = null_ptr; alloc = record { memory = record { seal = tt } }; value = record { prefix = n.value.prefix; children = mapped f n.value.children } })

module _ {P : Type 0} where
  -- the node in a slot
  abbrev pub slot_node : {K : Type 0} → ℕ → Slot P K → Node ℕ P
  slot_node slot (Inner n) = with_children (inner_child slot) n
  slot_node slot (Leaf n) = with_children leaf_child n

  -- a leaf in the place of its parent, if one is there
  abbrev pub lone_in : Option (Child ℕ (Lone P)) → Option (Node ℕ P)
  lone_in None = None
  lone_in (Some Blank) = None
  lone_in (Some (Sub below)) = None
  lone_in (Some (Value lone)) = Some (lone_node lone)

  -- the leaf in a node's place under a byte, if one is there
  abbrev pub inline_at : {K : Type 0} → Slot P K → ℕ → Option (Node ℕ P)
  inline_at (Inner n) byte = lone_in (finite.get (children_of n) byte)
  inline_at (Leaf n) byte = None

  -- what stands under one of a slot's names: its node under the first, and a leaf in the node's place under a byte's
  abbrev pub under_offset : {K : Type 0} → ℕ → Slot P K → ℕ → Option (Node ℕ P)
  under_offset slot x zero = Some (slot_node slot x)
  under_offset slot x (suc byte) = inline_at x byte

  -- the same of a slot that may be vacant
  abbrev pub in_slot : {K : Type 0} → ℕ → Option (Slot P K) → ℕ → Option (Node ℕ P)
  in_slot slot None offset = None
  in_slot slot (Some x) offset = under_offset slot x offset

  -- the node of a name
  abbrev pub node_named : {K : Type 0} → List (Option (Slot P K)) → ℕ → Option (Node ℕ P)
  node_named slots name = in_slot (name / 257) (slice_index_or slots (name / 257) None) (name % 257)

  -- the nodes, each under its name
  unfoldable pub nodes_in : {K : Type 0} → Slab (Slot P K) → Nodes P
  nodes_in s = record { slots = map (node_named s.slots) (range_with_len 0 (257 * length s.slots)); vacant_key = slot_name s.vacant_key; capacity = s.capacity }
