-- A node as a walk has read it.
use Rattle.std.specs.Prelude.{◌≡◌, ℕ, ◌<◌, true, length, slice_index, Some}
use Rattle.std.specs.FinMap as map
use Rattle.slab.specs.Slab.{get}
use Rattle.congee.specs.Heap.{fits}
use Rattle.congee.specs.Keys.{key_bytes}
use Rattle.congee.specs.forms.Forms.{children_of, prefix_of}
use Rattle.congee.specs.owned.Arena.{Nodes, heap_of}
use Rattle.congee.specs.owned.Entries.{lone_seen}
use Rattle.congee.specs.owned.Stores.{StandsWith}
use Rattle.congee.specs.owned.Slots.{inline_name, inner_child, leaf_child, lone_node, with_children}
use Rattle.congee.specs.declared.forms.base_node.Node.{Node}
use Rattle.congee.specs.declared.forms.child.Child.{Child}
use Rattle.congee.specs.declared.forms.child.Child.TheVariants.{Blank, Node as Sub, Value}
use Rattle.congee.specs.declared.forms.prefix.TheConstants.{MAX_PREFIX_LEN}
use Rattle.congee.specs.declared.owned.inline_leaf.Lone.{Lone}
use Rattle.congee.specs.declared.owned.sight.Next.{Next}
use Rattle.congee.specs.declared.owned.sight.Next.TheVariants.{Blank as NextBlank, Node as NextNode, Leaf as NextLeaf, Value as NextValue}
use Rattle.congee.specs.declared.owned.sight.Sight.{Sight}
use Rattle.congee.specs.declared.owned.sight.Sight.TheVariants.{Inline, Inner, Leaf}

module _ {P : Type 0} where
  -- the inner node in a slot stands under a name, and the leaves that lie in its places under theirs
  pub record SeesInner (s : Nodes P) (at slot : ℕ) (n : Node ℕ (Lone P)) : Type 0 where
    pub is : get s at ≡ Some (with_children (inner_child slot) n)
    pub inline : (b : ℕ) (lone : Lone P) → b < 256 → map.get (children_of n) b ≡ Some (Value lone) → get s (inline_name slot b) ≡ Some (lone_node lone)

  -- the leaf in a slot does, and this would be its key at byte 0
  pub record SeesLeaf (s : Nodes P) (at least : ℕ) (n : Node ℕ P) : Type 0 where
    pub is : get s at ≡ Some (with_children leaf_child n)
    pub seven : length (prefix_of n) ≡ MAX_PREFIX_LEN
    pub begins : fits (prefix_of n) (key_bytes least) ≡ true
    pub ends : slice_index (key_bytes least) MAX_PREFIX_LEN ≡ 0

  -- what was read is the node under a name
  abbrev pub Sees : {K : Type 0} → Nodes P → ℕ → Sight P K → Type 0
  Sees s at (Inline lone) = get s at ≡ Some (lone_node (lone_seen lone))
  Sees s at (Inner slot n) = SeesInner s at slot n.now
  Sees s at (Leaf least n) = SeesLeaf s at least n.now

  -- what was found under a byte, as a child
  abbrev pub child_of : Next P → Child ℕ P
  child_of NextBlank = Blank
  child_of (NextNode name) = Sub name
  child_of (NextLeaf name key value) = Sub name
  child_of (NextValue key value) = Value value.now

  -- a leaf that was found stands under its name, with its pair alone
  abbrev pub HasLeaf : Nodes P → Next P → Type 0
  HasLeaf s NextBlank = Unit {0}
  HasLeaf s (NextNode name) = Unit {0}
  HasLeaf s (NextLeaf name key value) = StandsWith s name key value.now
  HasLeaf s (NextValue key value) = Unit {0}

  -- the key of a value that was found has the node's prefix, and then the byte
  abbrev pub HasKey : Nodes P → ℕ → ℕ → Next P → Type 0
  HasKey s at byte NextBlank = Unit {0}
  HasKey s at byte (NextNode name) = Unit {0}
  HasKey s at byte (NextLeaf name key value) = Unit {0}
  HasKey s at byte (NextValue key value) = (fits (heap_of s at).prefix (key_bytes key) ≡ true) × (slice_index (key_bytes key) (length (heap_of s at).prefix) ≡ byte)
