-- What single changes of the storage do to the nodes of an owned tree.
use Rattle.std.specs.Prelude.{◌≡◌, ◌≢◌, ℕ, ◌+◌, ◌<◌, length, List, Option, None, Some}
use Rattle.std.specs.FinMap as map
use Rattle.slab.specs.Slab.{Updates, get}
use Rattle.congee.specs.forms.Forms.{Becomes, children_of, form_of, next_form, prefix_of}
use Rattle.congee.specs.Keys.{key_bytes}
use Rattle.congee.specs.owned.Arena.{Nodes}
use Rattle.congee.specs.owned.Changes.{IsLeafOf}
use Rattle.congee.specs.owned.Naming.{HasOwnSlot}
use Rattle.congee.specs.owned.Renames.{Renames}
use Rattle.congee.specs.declared.forms.base_node.Node.{Node}
use Rattle.congee.specs.declared.forms.base_node.NodeType.TheVariants.{N4}
use Rattle.congee.specs.declared.forms.child.Child.{Child}
use Rattle.congee.specs.declared.forms.child.Child.TheVariants.{Blank, Node as Sub, Value}
use Rattle.congee.specs.declared.forms.prefix.TheConstants.{MAX_PREFIX_LEN}
use Rattle.congee.specs.declared.owned.place.Found.{Found}
use Rattle.congee.specs.declared.owned.place.Found.TheVariants.{Blank as FoundBlank, Node as FoundNode, Leaf as FoundLeaf, Value as FoundValue}

module _ {P : Type 0} where
  -- what was found, as a child
  abbrev pub child_now : Found P → Child ℕ P
  child_now FoundBlank = Blank
  child_now (FoundNode name) = Sub name
  child_now (FoundLeaf name key value) = Sub name
  child_now (FoundValue value) = Value value.now

  -- a leaf with the pair alone stands under a name
  pub record StandsWith (s : Nodes P) (name key : ℕ) (value : P) : Type 0 where
    pub leaf : Node ℕ P
    pub is : get s name ≡ Some leaf
    pub has : IsLeafOf leaf (key_bytes key) value

  -- so does the leaf that was found, if it is one
  abbrev pub LeafStands : Nodes P → Found P → Type 0
  LeafStands s FoundBlank = Unit {0}
  LeafStands s (FoundNode name) = Unit {0}
  LeafStands s (FoundLeaf name key value) = StandsWith s name key value.now
  LeafStands s (FoundValue value) = Unit {0}

  -- a node with a slot of its own hangs there
  abbrev pub HasNode : Option (Child ℕ P) → Type 0
  HasNode None = ⊥
  HasNode (Some Blank) = ⊥
  HasNode (Some (Sub name)) = HasOwnSlot name
  HasNode (Some (Value value)) = ⊥

  -- a leaf hangs there that lies in its parent's place
  abbrev pub HasInline : Option (Child ℕ P) → Type 0
  HasInline None = ⊥
  HasInline (Some Blank) = ⊥
  HasInline (Some (Sub name)) = HasOwnSlot name → ⊥
  HasInline (Some (Value value)) = ⊥

  -- a leaf of the least form with one value
  pub record IsLone (leaf : Node ℕ P) (last : ℕ) (value : P) : Type 0 where
    pub form : form_of leaf ≡ N4
    pub prefix : length (prefix_of leaf) ≡ MAX_PREFIX_LEN
    pub children : children_of leaf ≡ map.insert map.empty last (Value value)

  -- so it is with some value
  pub record HasOne (leaf : Node ℕ P) : Type 0 where
    pub last : ℕ
    pub value : P
    pub low : last < 256
    pub lone : IsLone leaf last value

  -- the root stands alone, where no node stood
  pub record IsAlone (s : Nodes P) (root : Node ℕ P) : Type 0 where
    pub before : Nodes P
    pub none : (n : ℕ) → get before n ≡ None
    pub puts : Updates before s 0 (Some root)

  -- a least leaf for the key, with one value, hangs below node x under a free name
  pub record HangsLeaf (s s' : Nodes P) (at : ℕ) (x : Node ℕ P) (byte : ℕ) (key : List ℕ) (value : P) : Type 0 where
    pub leaf : ℕ
    pub inline : HasOwnSlot leaf → ⊥
    pub named : leaf ≡ at + (byte + 1)
    pub made : Node ℕ P
    pub form : form_of made ≡ N4
    pub has : IsLeafOf made key value
    pub vacant : get s leaf ≡ None
    pub taken : get s' leaf ≡ Some made
    pub node : Node ℕ P
    pub becomes : Becomes x node (map.insert (children_of x) byte (Sub leaf))
    pub now : get s' at ≡ Some node
    pub others : (m : ℕ) → m ≢ at → m ≢ leaf → get s' m ≡ get s m

  -- the leaf with one value that hangs below node x goes
  pub record LosesLeaf (s s' : Nodes P) (at : ℕ) (x : Node ℕ P) (byte : ℕ) (value : P) : Type 0 where
    pub leaf : ℕ
    pub child : map.get (children_of x) byte ≡ Some (Sub leaf)
    pub last : ℕ
    pub was : Node ℕ P
    pub stood : get s leaf ≡ Some was
    pub lone : IsLone was last value
    pub node : Node ℕ P
    pub becomes : Becomes x node (map.remove (children_of x) byte)
    pub now : get s' at ≡ Some node
    pub left : get s' leaf ≡ None
    pub others : (m : ℕ) → m ≢ at → m ≢ leaf → get s' m ≡ get s m

  -- node `below` comes into the place of the leaf with one value that hangs below node x, and the leaf goes
  pub record CoversLeaf (s s' : Nodes P) (at : ℕ) (x : Node ℕ P) (byte below : ℕ) (key : List ℕ) (value : P) : Type 0 where
    pub own : HasOwnSlot at
    pub leaf : ℕ
    pub named : leaf ≡ at + (byte + 1)
    pub child : map.get (children_of x) byte ≡ Some (Sub leaf)
    pub was : Node ℕ P
    pub form : form_of was ≡ N4
    pub has : IsLeafOf was key value
    pub stood : get s leaf ≡ Some was
    pub node : Node ℕ P
    pub becomes : Becomes x node (map.insert (children_of x) byte (Sub below))
    pub now : get s' at ≡ Some node
    pub left : get s' leaf ≡ None
    pub others : (m : ℕ) → m ≢ at → m ≢ leaf → get s' m ≡ get s m

  -- a least leaf for the key, with one value, comes in under a name that was free
  pub record MakesLeaf (s s' : Nodes P) (name : ℕ) (key : List ℕ) (value : P) : Type 0 where
    pub node : Node ℕ P
    pub form : form_of node ≡ N4
    pub has : IsLeafOf node key value
    pub vacant : get s name ≡ None
    pub updates : Updates s s' name (Some node)

  -- node x takes the next greater form
  pub record GrowsTo (s s' : Nodes P) (at : ℕ) (x : Node ℕ P) : Type 0 where
    pub node : Node ℕ P
    pub form : form_of node ≡ next_form (form_of x)
    pub prefix : prefix_of node ≡ prefix_of x
    pub children : children_of node ≡ children_of x
    pub updates : Updates s s' at (Some node)

  -- a leaf comes into its parent's place
  pub record Folds (s s' : Nodes P) (at byte leaf : ℕ) : Type 0 where
    pub name : ℕ
    pub renames : Renames s s' at byte leaf name

  -- all nodes but the root went, and the root's children
  pub record LeavesRoot (s s' : Nodes P) (root : Node ℕ P) : Type 0 where
    pub node : Node ℕ P
    pub becomes : Becomes root node map.empty
    pub alone : IsAlone s' node
