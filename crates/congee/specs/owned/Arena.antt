-- The nodes of an owned tree, which stand in a slab, as a tree.
use Rattle.std.specs.Prelude.{◌≡◌, ◌≢◌, ◌<◌, ℕ, true, false, List, length, Option, None, Some, is_some, cond}
use Rattle.std.specs.FinMap as map
use Rattle.slab.specs.Slab.{Slab, get, ContainsKey}
use Rattle.congee.specs.Heap.{Node, Hung, Nothing, Below, Holds, vacant, fits, child_for}
use Rattle.congee.specs.Notes.{Linked, Gone, Note, Tree}
use Rattle.congee.specs.forms.Forms.{prefix_of, children_of, form_of, capacity_of}
use Rattle.congee.specs.declared.forms.base_node.Node.{Node as Form}
use Rattle.congee.specs.declared.forms.child.Child.{Child}
use Rattle.congee.specs.declared.forms.child.Child.TheVariants.{Blank, Node as Sub, Value}
use Rattle.congee.specs.declared.forms.prefix.TheConstants.{MAX_PREFIX_LEN}

-- the nodes of an arena, each under its name
abbrev pub Nodes : Type 0 → Type 0
Nodes P = Slab (Form ℕ P)

-- what a form has under a byte; a blank is never put in, and is seen as the root, which hangs nowhere
abbrev pub hung_in : {P : Type 0} → Option (Child ℕ P) → Hung P
hung_in None = Nothing
hung_in (Some Blank) = Below 0
hung_in (Some (Sub c)) = Below c
hung_in (Some (Value v)) = Holds v

-- a node as the tree sees it; a vacant place is a node that has left the tree
abbrev pub node_of : {P : Type 0} → Option (Form ℕ P) → Node P
node_of None = vacant true true true
node_of (Some n) = record {
  prefix = prefix_of n;
  children = λ b. hung_in (map.get (children_of n) b);
  count = map.len (children_of n);
  capacity = capacity_of (form_of n);
  version = 0;
  locked = false;
  obsolete = false;
  made = true;
  destroyed = false;
  retired = false;
}

-- the nodes of the arena as the tree sees them
abbrev pub heap_of : {P : Type 0} → Nodes P → ℕ → Node P
heap_of s n = node_of (get s n)

-- which places are nodes of the tree, and below which node each hangs
abbrev pub notes_of : {P : Type 0} → Nodes P → (ℕ → ℕ) → ℕ → Note
notes_of s parent n = record { status = cond (is_some (get s n)) Linked Gone; owner = None; parent = parent n }

-- a node with a prefix of seven bytes is a leaf; the one at a place has a value
abbrev pub IsFilled : {P : Type 0} → Option (Form ℕ P) → Type 0
IsFilled {P} o = (x : Form ℕ P) → o ≡ Some x → length (prefix_of x) ≡ MAX_PREFIX_LEN → 0 < map.len (children_of x)

-- the nodes are a tree, the root has 256 places, and no leaf is empty
pub record IsTree {P : Type 0} (s : Nodes P) : Type 0 where
  pub parent : ℕ → ℕ
  pub tree : Tree (notes_of s parent) (heap_of s)
  pub wide : (heap_of s 0).capacity ≡ 256
  pub filled : (n : ℕ) → IsFilled (get s n)

-- a node whose prefix the key has
pub record OnWay {P : Type 0} (s : Nodes P) (key : List ℕ) (n : ℕ) : Type 0 where
  pub stands : ContainsKey s n
  pub fitted : fits (heap_of s n).prefix key ≡ true

-- the node above one on the key's way
pub record Hangs {P : Type 0} (s : Nodes P) (key : List ℕ) (above n : ℕ) : Type 0 where
  pub way : OnWay s key above
  pub child : child_for (heap_of s above) key ≡ Below n

-- the key's way has come to a node, and the node above it
pub record Reached {P : Type 0} (s : Nodes P) (key : List ℕ) (above n : ℕ) : Type 0 where
  pub way : OnWay s key n
  pub hangs : n ≢ 0 → Hangs s key above n
