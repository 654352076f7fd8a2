-- Changes of single nodes, and of the map at one key.
use Rattle.std.specs.Prelude.{◌≡◌, ◌≢◌, ℕ, ◌<◌, List, length, slice_index, take, Option, None, Some}
use Rattle.slab.specs.Slab.{get}
use Rattle.std.specs.FinMap as map
use Rattle.congee.specs.Heap.{value_at}
use Rattle.congee.specs.forms.Forms.{prefix_of, children_of, form_of, capacity_of}
use Rattle.congee.specs.owned.Arena.{Nodes, heap_of}
use Rattle.congee.specs.declared.forms.base_node.Node.{Node}
use Rattle.congee.specs.declared.forms.child.Child.{Child}
use Rattle.congee.specs.declared.forms.child.Child.TheVariants.{Node as Sub, Value}
use Rattle.congee.specs.declared.keys.TheConstants.{KEY_BYTES}
use Rattle.congee.specs.declared.forms.prefix.TheConstants.{MAX_PREFIX_LEN}

-- node y is node x but for what hangs at one byte; one of 256 places keeps them
pub record Differs {P : Type 0} (x y : Node ℕ P) (byte : ℕ) (child : Option (Child ℕ P)) : Type 0 where
  pub prefix : prefix_of y ≡ prefix_of x
  pub here : map.get (children_of y) byte ≡ child
  pub beside : (b : ℕ) → b ≢ byte → map.get (children_of y) b ≡ map.get (children_of x) b
  pub wide : capacity_of (form_of x) ≡ 256 → capacity_of (form_of y) ≡ 256

-- the map in the nodes changes at one key alone
pub record MapChange {P : Type 0} (s s' : Nodes P) (key : List ℕ) (before after : Option P) : Type 0 where
  pub was : value_at (heap_of s) key ≡ before
  pub now : value_at (heap_of s') key ≡ after
  pub others : (k : List ℕ) → length k ≡ KEY_BYTES → k ≢ key → value_at (heap_of s') k ≡ value_at (heap_of s) k

-- a node with one value, the key's
pub record IsLeafOf {P : Type 0} (leaf : Node ℕ P) (key : List ℕ) (v : P) : Type 0 where
  pub prefix : prefix_of leaf ≡ take MAX_PREFIX_LEN key
  pub value : map.get (children_of leaf) (slice_index key MAX_PREFIX_LEN) ≡ Some (Value v)
  pub beside : (b : ℕ) → b ≢ slice_index key MAX_PREFIX_LEN → map.get (children_of leaf) b ≡ None

-- a leaf for the key comes in below node `at`
pub record AddsLeaf {P : Type 0} (s s' : Nodes P) (key : List ℕ) (at leaf : ℕ) (v : P) : Type 0 where
  pub before : Node ℕ P
  pub after : Node ℕ P
  pub made : Node ℕ P
  pub was : get s at ≡ Some before
  pub now : get s' at ≡ Some after
  pub differs : Differs before after (slice_index key (length (prefix_of before))) (Some (Sub leaf))
  pub vacant : get s leaf ≡ None
  pub taken : get s' leaf ≡ Some made
  pub has : IsLeafOf made key v
  pub others : (m : ℕ) → m ≢ leaf → m ≢ at → get s' m ≡ get s m

-- a node of the key's first bytes comes in below node `at`, over node `below` and a leaf for the key
pub record AddsFork {P : Type 0} (s s' : Nodes P) (key : List ℕ) (at below common over leaf : ℕ) (v : P) : Type 0 where
  pub before : Node ℕ P
  pub after : Node ℕ P
  pub lower : Node ℕ P
  pub fork : Node ℕ P
  pub made : Node ℕ P
  pub was : get s at ≡ Some before
  pub now : get s' at ≡ Some after
  pub differs : Differs before after (slice_index key (length (prefix_of before))) (Some (Sub over))
  pub vacant_over : get s over ≡ None
  pub vacant_leaf : get s leaf ≡ None
  pub apart : over ≢ leaf
  pub taken_leaf : get s' leaf ≡ Some made
  pub has : IsLeafOf made key v
  pub taken_over : get s' over ≡ Some fork
  pub prefix : prefix_of fork ≡ take common key
  pub old_child : map.get (children_of fork) (slice_index (prefix_of lower) common) ≡ Some (Sub below)
  pub new_child : map.get (children_of fork) (slice_index key common) ≡ Some (Sub leaf)
  pub beside : (b : ℕ) → b ≢ slice_index (prefix_of lower) common → b ≢ slice_index key common → map.get (children_of fork) b ≡ None
  pub stands : get s below ≡ Some lower
  pub others : (m : ℕ) → m ≢ over → m ≢ leaf → m ≢ at → get s' m ≡ get s m

-- leaf `at` with one value goes from node `above`
pub record DropsLeaf {P : Type 0} (s s' : Nodes P) (key : List ℕ) (above at : ℕ) (v : P) : Type 0 where
  pub before : Node ℕ P
  pub after : Node ℕ P
  pub last : Node ℕ P
  pub was : get s above ≡ Some before
  pub now : get s' above ≡ Some after
  pub differs : Differs before after (slice_index key (length (prefix_of before))) None
  pub stood : get s at ≡ Some last
  pub value : map.get (children_of last) (slice_index key (length (prefix_of last))) ≡ Some (Value v)
  pub beside : (b : ℕ) → b ≢ slice_index key (length (prefix_of last)) → map.get (children_of last) b ≡ None
  pub left : get s' at ≡ None
  pub others : (m : ℕ) → m ≢ above → m ≢ at → get s' m ≡ get s m

-- the first place where a key and a prefix differ
pub record DiffersAt (key p : List ℕ) (common : ℕ) : Type 0 where
  pub within : common < length p
  pub same : (j : ℕ) → j < common → slice_index key j ≡ slice_index p j
  pub apart : slice_index key common ≢ slice_index p common
