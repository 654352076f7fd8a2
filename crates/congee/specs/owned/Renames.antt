-- A node takes another name.
use Rattle.std.specs.Prelude.{◌≡◌, ◌≢◌, ℕ, Bool, List, Some, None}
use Rattle.std.specs.FinMap as map
use Rattle.slab.specs.Slab.{get}
use Rattle.congee.specs.Heap.{value_at}
use Rattle.congee.specs.forms.Forms.{Becomes, children_of}
use Rattle.congee.specs.owned.Arena.{Nodes, IsTree, heap_of}
use Rattle.congee.specs.owned.Full.{NodesFilled}
use Rattle.congee.specs.owned.Sizes.{bytes_of}
use Rattle.congee.specs.declared.forms.base_node.Node.{Node}
use Rattle.congee.specs.declared.forms.child.Child.TheVariants.{Node as Sub}

-- the node that hangs at a byte of node `above` stands under another name, which was free, and hangs there under it
pub record Renames {P : Type 0} (s s' : Nodes P) (above byte before after : ℕ) : Type 0 where
  pub old : Node ℕ P
  pub new : Node ℕ P
  pub node : Node ℕ P
  pub was : get s above ≡ Some old
  pub child : map.get (children_of old) byte ≡ Some (Sub before)
  pub stood : get s before ≡ Some node
  pub free : get s after ≡ None
  pub now : get s' above ≡ Some new
  pub becomes : Becomes old new (map.insert (children_of old) byte (Sub after))
  pub stands : get s' after ≡ Some node
  pub left : get s' before ≡ None
  pub others : (m : ℕ) → m ≢ above → m ≢ before → m ≢ after → get s' m ≡ get s m

-- names alone changed: the nodes are a tree with the same map, take the same room, and have enough children if they had
pub record Renamed {P : Type 0} (s s' : Nodes P) : Type 0 where
  pub tree : IsTree s'
  pub values : (key : List ℕ) → value_at (heap_of s') key ≡ value_at (heap_of s) key
  pub bytes : bytes_of s' ≡ bytes_of s
  pub filled : (by_form : Bool) → NodesFilled by_form s → NodesFilled by_form s'
