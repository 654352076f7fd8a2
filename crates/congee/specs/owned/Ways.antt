-- Where a node leads a key.
use Rattle.std.specs.Prelude.{◌≡◌, ◌*◌, ℕ, true, false, List}
use Rattle.congee.specs.Heap.{Nothing, Below as Under, Holds, fits, child_for}
use Rattle.congee.specs.owned.Arena.{Nodes, heap_of}
use Rattle.congee.specs.declared.owned.place.Onward.{Onward}
use Rattle.congee.specs.declared.owned.place.Onward.TheVariants.{Free as GoesFree, Held as GoesHeld, FreeBelow, HeldBelow, Below as GoesBelow, Apart as GoesApart}
use Rattle.congee.specs.declared.owned.place.Way.{Way}
use Rattle.congee.specs.declared.owned.place.Way.TheVariants.{Free, Held, Below, Apart}

-- what the node has for the key
abbrev pub Leads : {P : Type 0} → Nodes P → List ℕ → ℕ → Way P → Type 0
Leads s key at Free = child_for (heap_of s at) key ≡ Nothing
Leads s key at (Held value) = child_for (heap_of s at) key ≡ Holds value.now
Leads s key at (Below c) = (child_for (heap_of s at) key ≡ Under c) × (fits (heap_of s c).prefix key ≡ true)
Leads s key at (Apart c) = (child_for (heap_of s at) key ≡ Under c) × (fits (heap_of s c).prefix key ≡ false)

-- whether the key has the prefix of the node of this name
abbrev pub IsWayBelow : {P : Type 0} → Nodes P → List ℕ → ℕ → Way P → Type 0
IsWayBelow s key name Free = ⊥
IsWayBelow s key name (Held value) = ⊥
IsWayBelow s key name (Below c) = (c ≡ name) × (fits (heap_of s c).prefix key ≡ true)
IsWayBelow s key name (Apart c) = (c ≡ name) × (fits (heap_of s c).prefix key ≡ false)

-- what the node has for the key, and where that is a leaf that leads the key, what the leaf has
abbrev pub LeadsOn : {P : Type 0} → Nodes P → List ℕ → ℕ → Onward P → Type 0
LeadsOn s key at GoesFree = Leads s key at Free
LeadsOn s key at (GoesHeld value) = Leads s key at (Held value)
LeadsOn s key at (FreeBelow c) = Leads s key at (Below c) × Leads s key c Free
LeadsOn s key at (HeldBelow c value) = Leads s key at (Below c) × Leads s key c (Held value)
LeadsOn s key at (GoesBelow slot) = Leads s key at (Below (257 * slot))
LeadsOn s key at (GoesApart c) = Leads s key at (Apart c)

-- whether the key has the prefix of the node of this name, which has a slot of its own
abbrev pub IsWayOn : {P : Type 0} → Nodes P → List ℕ → ℕ → Onward P → Type 0
IsWayOn s key name GoesFree = ⊥
IsWayOn s key name (GoesHeld value) = ⊥
IsWayOn s key name (FreeBelow c) = ⊥
IsWayOn s key name (HeldBelow c value) = ⊥
IsWayOn s key name (GoesBelow slot) = IsWayBelow s key name (Below (257 * slot))
IsWayOn s key name (GoesApart c) = IsWayBelow s key name (Apart c)
