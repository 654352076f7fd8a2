-- Where a key's way through the tree ends.
use Rattle.std.specs.Prelude.{◌≡◌, ℕ, false, List, Some, length}
use Rattle.slab.specs.Slab.{get}
use Rattle.congee.specs.Heap.{Nothing, Below, Holds, fits, child_for}
use Rattle.congee.specs.forms.Forms.{is_full_of}
use Rattle.congee.specs.owned.Arena.{Nodes, OnWay, Hangs, Reached, heap_of}
use Rattle.congee.specs.owned.Naming.{HasOwnSlot}
use Rattle.congee.specs.declared.forms.base_node.Node.{Node as Form}
use Rattle.congee.specs.declared.forms.prefix.TheConstants.{MAX_PREFIX_LEN}
use Rattle.congee.specs.declared.owned.place.Place.{Place}
use Rattle.congee.specs.declared.owned.place.Spot.{Spot}
use Rattle.congee.specs.declared.owned.place.Spot.TheVariants.{Held, Free, Apart}

-- what the last node has for the key
abbrev pub EndsAt : {P : Type 0} → Nodes P → List ℕ → ℕ → Spot → Type 0
EndsAt {P} s key n Held = (v : P) × (child_for (heap_of s n) key ≡ Holds v)
EndsAt s key n Free = child_for (heap_of s n) key ≡ Nothing
EndsAt s key n (Apart c) = (child_for (heap_of s n) key ≡ Below c) × (fits (heap_of s c).prefix key ≡ false)

-- the key's way ends at a place, with the two nodes above it
pub record Located {P : Type 0} (s : Nodes P) (key : List ℕ) (p : Place) : Type 0 where
  pub reached : Reached s key p.above p.at
  pub higher : Reached s key p.top p.above
  pub ends : EndsAt s key p.at p.spot

-- the key's way ends at a place, and a leaf there that lies in its parent's place hangs in the node above
pub record Ends {P : Type 0} (s : Nodes P) (key : List ℕ) (p : Place) : Type 0 where
  pub way : OnWay s key p.at
  pub hangs : (HasOwnSlot p.at → ⊥) → Hangs s key p.above p.at
  pub ends : EndsAt s key p.at p.spot

-- the key's way ends at a leaf that has nothing for it, and room
pub record IsOpen {P : Type 0} (s : Nodes P) (key : List ℕ) (at : ℕ) : Type 0 where
  pub way : OnWay s key at
  pub leaf : length (heap_of s at).prefix ≡ MAX_PREFIX_LEN
  pub free : child_for (heap_of s at) key ≡ Nothing
  pub room : (x : Form ℕ P) → get s at ≡ Some x → is_full_of x ≡ false

-- the key's way ends at a node, before the one that hangs there, whose prefix the key lacks
pub record PartsAt {P : Type 0} (s : Nodes P) (key : List ℕ) (at below : ℕ) : Type 0 where
  pub way : OnWay s key at
  pub hangs : child_for (heap_of s at) key ≡ Below below
  pub differs : fits (heap_of s below).prefix key ≡ false
