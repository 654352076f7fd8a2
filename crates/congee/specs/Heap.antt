-- The nodes of a tree, by their names, and the map that stands in them.
use Rattle.std.specs.Prelude.{◌≡◌, ℕ, zero, suc, ◌==◌, ◌&&◌, not, Bool, true, false, List, [], ◌∷◌, length, slice_index, Option, None, Some, cond}
use Rattle.congee.specs.declared.keys.TheConstants.{KEY_BYTES}

-- what hangs at a byte: nothing, a node by its name, or a value
pub data Hung (V : Type 0) : Type 0 where
  Nothing : Hung V
  Below : ℕ → Hung V
  Holds : V → Hung V

-- a node: its full prefix from the root, its children by their bytes, how many they are and how many may be,
-- its lock word, whether it was ever made, whether it was destroyed, and whether it was handed over for that
pub record Node (V : Type 0) : Type 0 where
  pub prefix : List ℕ
  pub children : ℕ → Hung V
  pub count : ℕ
  pub capacity : ℕ
  pub version : ℕ
  pub locked : Bool
  pub obsolete : Bool
  pub made : Bool
  pub destroyed : Bool
  pub retired : Bool

-- a name at which no node stands: never made, or made and destroyed
abbrev pub vacant : {V : Type 0} → Bool → Bool → Bool → Node V
vacant made destroyed retired = record {
  prefix = [];
  children = λ b. Nothing;
  count = 0;
  capacity = 0;
  version = 0;
  locked = false;
  obsolete = true;
  made = made;
  destroyed = destroyed;
  retired = retired;
}

-- whether the prefix is the beginning of the key
abbrev pub fits : List ℕ → List ℕ → Bool
fits [] key = true
fits (x ∷ p) [] = false
fits (x ∷ p) (y ∷ key) = (x == y) && fits p key

-- what hangs at the key's byte at the node
abbrev pub child_for : {V : Type 0} → Node V → List ℕ → Hung V
child_for n key = n.children (slice_index key (length n.prefix))

-- what is found there: nothing, what a function finds at a node, or the value
abbrev pub of_child : {V : Type 0} → (ℕ → Option V) → Hung V → Option V
of_child go Nothing = None
of_child go (Below c) = go c
of_child go (Holds v) = Some v

-- the value of the key on the path down from a node, over so many nodes at most
abbrev pub walk : {V : Type 0} → (ℕ → Node V) → ℕ → ℕ → List ℕ → Option V
walk h zero n key = None
walk h (suc f) n key = cond (fits (h n).prefix key) (of_child (λ c. walk h f c key) (child_for (h n) key)) None

-- the map that stands in the tree, by keys of eight bytes
abbrev pub value_at : {V : Type 0} → (ℕ → Node V) → List ℕ → Option V
value_at h key = walk h KEY_BYTES 0 key

-- a lock word that is neither locked nor obsolete
abbrev pub is_free : {V : Type 0} → Node V → Bool
is_free n = not n.locked && not n.obsolete

-- the version of a free lock word
abbrev pub version_of : {V : Type 0} → Node V → Option ℕ
version_of n = cond (is_free n) (Some n.version) None

-- whether the lock word is the one that was taken
abbrev pub is_taken : {V : Type 0} → Node V → ℕ → Bool
is_taken n v = (n.version == v) && is_free n

-- the node is there: a name that a call holds may be used
pub record Stands {V : Type 0} (n : Node V) : Type 0 where
  pub made : n.made ≡ true
  pub kept : n.destroyed ≡ false
