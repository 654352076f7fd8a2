-- A node as the protocol sees it, read off its slot.
use Rattle.std.specs.Prelude.{ℕ, ◌==◌, ◌&&◌, not, Bool, true, false, List, [], Option, None, Some, Box}
use Rattle.std.specs.FinMap as map
use Rattle.crossbeam_epoch.specs.world.Store.{Store}
use Rattle.congee.specs.declared.forms.child.Child.{Child}
use Rattle.congee.specs.declared.forms.base_node.Node.{Node as Form}
use Rattle.congee.specs.forms.Forms.{children_of, prefix_of, form_of, capacity_of}
use Rattle.congee.specs.Heap.{Node, Hung, Nothing, vacant}
use Rattle.congee.specs.protocol.Events.{hung}
use Rattle.joint.specs.declared.id.Id.{Id}
use Rattle.joint.specs.declared.nodes.slot.Slot.{Slot}
use Rattle.joint.specs.declared.nodes.slot.LockWord.{LockWord}
use Rattle.joint.specs.nodes.Heap.{heap_of}
use Rattle.joint.specs.Names.{number}

-- the number of a node's name
abbrev pub id_number : Id → ℕ
id_number i = number i.name

-- what hangs where this child is, if one is
abbrev pub hung_at : {P : Type 0} → Option (Child Id P) → Hung P
hung_at None = Nothing
hung_at (Some c) = hung id_number c

-- what hangs at a byte of a node
abbrev pub child_at : {P : Type 0} → Form Id P → ℕ → Hung P
child_at n b = hung_at (map.get (children_of n) b)

-- the prefix of a node, where one is in its box
abbrev pub prefix_in : {P A : Type 0} → Option (Box (Form Id P) A) → List ℕ
prefix_in None = []
prefix_in (Some n) = prefix_of n.value

-- what hangs at its byte
abbrev pub child_in : {P A : Type 0} → Option (Box (Form Id P) A) → ℕ → Hung P
child_in None b = Nothing
child_in (Some n) b = child_at n.value b

-- how many children it has
abbrev pub count_in : {P A : Type 0} → Option (Box (Form Id P) A) → ℕ
count_in None = 0
count_in (Some n) = map.len (children_of n.value)

-- how many places it has
abbrev pub capacity_in : {P A : Type 0} → Option (Box (Form Id P) A) → ℕ
capacity_in None = 0
capacity_in (Some n) = capacity_of (form_of n.value)

-- the node of a slot
abbrev pub node_of : {P : Type 0} → Slot P → Node P
node_of s = record {
  prefix = prefix_in s.node;
  children = child_in s.node;
  count = count_in s.node;
  capacity = capacity_in s.node;
  version = s.word.version;
  locked = s.word.locked;
  obsolete = s.word.obsolete;
  made = true;
  destroyed = false;
  retired = s.word.retired;
}

-- the node of a form under a lock word
abbrev pub shape : {P : Type 0} → Form Id P → LockWord → Node P
shape n w = record {
  prefix = prefix_of n;
  children = child_at n;
  count = map.len (children_of n);
  capacity = capacity_of (form_of n);
  version = w.version;
  locked = w.locked;
  obsolete = w.obsolete;
  made = true;
  destroyed = false;
  retired = w.retired;
}

-- an unused name's node was never made, and a used one's without a slot is destroyed
abbrev pub view : {P : Type 0} → Bool → Option (Slot P) → Node P
view given None = vacant given given false
view given (Some s) = node_of s

-- the nodes in the cells, by their numbers
abbrev pub heap : {P : Type 0} → Store (Slot P) → ℕ → Node P
heap st = heap_of view st

-- whether the word is free at this version
abbrev pub is_word : LockWord → ℕ → Bool
is_word w version = (w.version == version) && (not w.locked && not w.obsolete)

-- the node with another lock word
abbrev pub worded : {P : Type 0} → LockWord → Node P → Node P
worded w n = record n { version = w.version; locked = w.locked; obsolete = w.obsolete; retired = w.retired }

-- what stands in a cell while its node is out to be changed
abbrev pub out : {P : Type 0} → Slot P
out = record { node = None; word = record { version = 0; locked = false; obsolete = false; retired = false } }
