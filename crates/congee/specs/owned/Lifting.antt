-- A node's only child takes its place.
use Rattle.std.specs.Prelude.{◌≡◌, ◌≢◌, ℕ, ◌<◌, ◌⊎◌, length, slice_index, None, Some}
use Rattle.std.specs.FinMap as map
use Rattle.slab.specs.Slab.{Updates, get}
use Rattle.congee.specs.forms.Forms.{Becomes, children_of, prefix_of}
use Rattle.congee.specs.owned.Arena.{Nodes}
use Rattle.congee.specs.owned.Entries.{first_byte}
use Rattle.congee.specs.declared.forms.base_node.Node.{Node}
use Rattle.congee.specs.declared.forms.child.Child.{Child}
use Rattle.congee.specs.declared.forms.child.Child.TheVariants.{Blank, Node as Sub, Value}
use Rattle.congee.specs.owned.Only.{IsOnly}
use Rattle.congee.specs.owned.Slots.{lone_node, slot_name}
use Rattle.congee.specs.declared.owned.inline_leaf.Lone.{Lone}
use Rattle.congee.specs.declared.owned.slots.Slot.{Slot}
use Rattle.congee.specs.declared.owned.slots.Slot.TheVariants.{Inner, Leaf}
use Rattle.congee.specs.declared.forms.prefix.TheConstants.{MAX_PREFIX_LEN}

module _ {P : Type 0} where
  -- an inner node in a slot has this child, and nothing else
  abbrev pub HasOnly : {K : Type 0} → Slot P K → Child ℕ (Lone P) → Type 0
  HasOnly (Inner n) child = IsOnly (children_of n) child
  HasOnly (Leaf n) child = ⊥

  -- node x goes, and gives the node that hangs in it, which has a slot of its own
  pub record GivesNode (s s' : Nodes P) (at : ℕ) (x : Node ℕ P) (child : ℕ) : Type 0 where
    pub byte : ℕ
    pub only : children_of x ≡ map.insert map.empty byte (Sub child)
    pub gone : Updates s s' at None

  -- node x goes, and gives the leaf with one value that lies there, which goes as well
  pub record GivesLeaf (s s' : Nodes P) (at : ℕ) (x : Node ℕ P) (lone : Lone P) : Type 0 where
    pub byte : ℕ
    pub leaf : ℕ
    pub only : children_of x ≡ map.insert map.empty byte (Sub leaf)
    pub stood : get s leaf ≡ Some (lone_node lone)
    pub left : get s' leaf ≡ None
    pub gone : get s' at ≡ None
    pub others : (m : ℕ) → m ≢ at → m ≢ leaf → get s' m ≡ get s m

  -- either of them
  abbrev pub GivesOnly : Nodes P → Nodes P → ℕ → Node ℕ P → Child ℕ (Lone P) → Type 0
  GivesOnly s s' at x Blank = ⊥
  GivesOnly s s' at x (Sub slot) = GivesNode s s' at x (slot_name slot)
  GivesOnly s s' at x (Value lone) = GivesLeaf s s' at x lone

  -- a node hangs in it, and nothing else
  pub record HasOneNode (y : Node ℕ P) : Type 0 where
    pub byte : ℕ
    pub child : ℕ
    pub children : children_of y ≡ map.insert map.empty byte (Sub child)

  -- an inner node hangs in another, and one node in it, whose keys all begin with the byte that leads there
  pub record MayLift (s : Nodes P) (above byte at : ℕ) : Type 0 where
    pub upper : Node ℕ P
    pub lower : Node ℕ P
    pub was : get s above ≡ Some upper
    pub stood : get s at ≡ Some lower
    pub hung : map.get (children_of upper) byte ≡ Some (Sub at)
    pub inner : length (prefix_of upper) < MAX_PREFIX_LEN
    pub inner_below : length (prefix_of lower) < MAX_PREFIX_LEN
    pub one : HasOneNode lower
    pub node : Node ℕ P
    pub child : get s one.child ≡ Some node
    pub apart : above ≢ at
    pub child_apart : one.child ≢ above
    pub child_apart_below : one.child ≢ at
    pub begins : slice_index (prefix_of node) 0 ≡ first_byte (prefix_of upper) byte

  -- the lower node leaves its place, and the one that hung in it stands there, under the name that it had or under another one,
  -- which was free
  pub record MovesUp (s s' : Nodes P) (above byte at : ℕ) (r : MayLift s above byte at) : Type 0 where
    pub name : ℕ
    pub stands : get s' name ≡ Some r.node
    pub new : Node ℕ P
    pub becomes : Becomes r.upper new (map.insert (children_of r.upper) byte (Sub name))
    pub now : get s' above ≡ Some new
    pub left : get s' at ≡ None
    pub named : (name ≡ r.one.child) ⊎ ((get s name ≡ None) × (get s' r.one.child ≡ None))
    pub others : (m : ℕ) → m ≢ above → m ≢ at → m ≢ r.one.child → m ≢ name → get s' m ≡ get s m
