-- What stands in the places of an inner node: by its form, a finite map from bytes to entries.
use Rattle.std.specs.Prelude.{◌≡◌, ℕ, Bool, false, ◌==◌, List, [], ◌∷◌, slice_index, suc}
use Rattle.std.proofs.Common.{ap}
use Rattle.std.specs.Ordering.{nat_cmp}
use Rattle.std.specs.FinMap.{FinMap, len}
use Rattle.congee.specs.declared.forms.base_node.NodeType.{NodeType}
use Rattle.congee.specs.declared.forms.base_node.NodeType.TheVariants.{N4 as T4, N16 as T16, N48 as T48, N256 as T256}
use Rattle.congee.specs.declared.forms.child.Child.{Child}
use Rattle.congee.specs.declared.forms.child.Child.TheVariants.{Blank as NoChild, Node as Sub, Value}
use Rattle.congee.specs.declared.owned.entries.Entry.{Entry}
use Rattle.congee.specs.declared.owned.entries.Entry.TheVariants.{Blank, Node, Leaf}
use Rattle.congee.specs.declared.owned.entries.Tail.{Tail}
use Rattle.congee.specs.forms.Laid.{laid_node}
use Rattle.congee.specs.forms.Mapped.{mapped}
use Rattle.congee.specs.declared.forms.base_node.Node.{Node as Form}
use Rattle.congee.specs.declared.owned.entries.Hung.{Hung}
use Rattle.congee.specs.declared.owned.entries.Hung.TheVariants.{Blank as HungBlank, Node as HungNode, Leaf as HungLeaf}
use Rattle.congee.specs.declared.owned.entries.LoneRef.{LoneRef}
use Rattle.congee.specs.declared.owned.inline_leaf.Lone.{Lone}
use Rattle.congee.specs.declared.owned.places.Places.{Places}
use Rattle.congee.specs.declared.owned.places.Places.TheVariants.{N4, N16, N48, N256}

-- the first byte of every key under a byte of a node with this prefix
abbrev pub first_byte : List ℕ → ℕ → ℕ
first_byte [] byte = byte
first_byte (first ∷ rest) byte = first

module _ {P : Type 0} where
  -- the form of the places
  abbrev pub form_in : Places P → NodeType
  form_in (N4 n) = T4
  form_in (N16 n) = T16
  form_in (N48 n) = T48
  form_in (N256 n) = T256

  -- the entries by their bytes
  abbrev pub entries_in : Places P → FinMap nat_cmp (Entry P)
  entries_in (N4 n) = n
  entries_in (N16 n) = n
  entries_in (N48 n) = n
  entries_in (N256 n) = n.value.children

  -- no further child fits. A node of 256 is never full
  abbrev pub full_in : Places P → Bool
  full_in (N4 n) = len n == 4
  full_in (N16 n) = len n == 16
  full_in (N48 n) = len n == 48
  full_in (N256 n) = false

  -- the entries alone change
  pub record Refills (old new : Places P) (m : FinMap nat_cmp (Entry P)) : Type 0 where
    pub form : form_in new ≡ form_in old
    pub entries : entries_in new ≡ m

  -- the leaf that an entry keeps, with the first byte of its key
  abbrev pub leaf_by : ℕ → Tail → P → Lone P
  leaf_by first tail value = record { key = first ∷ tail.bytes; value = value; whole = ap suc tail.whole; last = tail.last }

  -- an entry under a byte of a node with this prefix, as a child
  abbrev pub child_by : List ℕ → ℕ → Entry P → Child ℕ (Lone P)
  child_by prefix byte Blank = NoChild
  child_by prefix byte (Node slot) = Sub slot
  child_by prefix byte (Leaf tail value) = Value (leaf_by (first_byte prefix byte) tail value)

  -- what places with a prefix are as a node; where they lie in memory isn't told
  abbrev pub node_by : List ℕ → Places P → Form ℕ (Lone P)
  node_by prefix p = laid_node (form_in p) prefix (mapped (child_by prefix) (entries_in p))

  -- a leaf where it lies, as one
  abbrev pub lone_seen : LoneRef P → Lone P
  lone_seen leaf = record { key = leaf.key; value = leaf.value.now; whole = leaf.whole; last = leaf.last }

  -- what hangs under a byte, where it lies, as a child
  abbrev pub child_there : Hung P → Child ℕ (Lone P)
  child_there HungBlank = NoChild
  child_there (HungNode slot) = Sub slot
  child_there (HungLeaf leaf) = Value (lone_seen leaf)

  -- a leaf's key begins with this byte
  abbrev pub Begins : ℕ → Child ℕ (Lone P) → Type 0
  Begins first NoChild = Unit {0}
  Begins first (Sub slot) = Unit {0}
  Begins first (Value lone) = slice_index lone.key 0 ≡ first
