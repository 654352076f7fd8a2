-- What a slot shows of its node.
use Rattle.std.specs.Prelude.{ℕ, List, [], ◌∷◌, Option, None, Some, Box}
use Rattle.std.specs.FinMap as map
use Rattle.crossbeam_epoch.specs.declared.names.Name.{Name}
use Rattle.congee.specs.declared.forms.child.Child.{Child}
use Rattle.congee.specs.declared.forms.child.Child.TheVariants.{Blank, Node as Sub, Value}
use Rattle.congee.specs.declared.forms.base_node.Node.{Node as Form}
use Rattle.congee.specs.forms.Forms.{children_of}
use Rattle.joint.specs.declared.id.Id.{Id}
use Rattle.joint.specs.declared.nodes.slot.Slot.{Slot}

-- the name of a child, if it is a node, before others
abbrev pub and_name : {P : Type 0} → Child Id P → List Name → List Name
and_name (Sub c) xs = c.name ∷ xs
and_name (Value v) xs = xs
and_name Blank xs = xs

-- the names among children
abbrev pub names_in : {P : Type 0} → List (ℕ × Child Id P) → List Name
names_in [] = []
names_in (e ∷ es) = and_name e.1 (names_in es)

-- the names in a node, where one is in its box
abbrev pub names_of : {P A : Type 0} → Option (Box (Form Id P) A) → List Name
names_of None = []
names_of (Some n) = names_in (map.entries (children_of n.value))

-- the names in a slot
abbrev pub slot_names : {P : Type 0} → Slot P → List Name
slot_names s = names_of s.node
