-- A value in its cell that becomes another one.
use Rattle.std.specs.Prelude.{◌≡◌, ◌≢◌, ℕ, ◌+◌, ◌<◌, true, false, List, length, None, Some}
use Rattle.crossbeam_epoch.specs.declared.names.Name.{Name}
use Rattle.crossbeam_epoch.specs.world.Store.{Store, Sets, IsNext, cell_at, value_at, was_given, is_usable, placed}
use Rattle.congee.specs.declared.forms.base_node.NodeType.{NodeType}
use Rattle.congee.specs.declared.forms.child.Child.{Child}
use Rattle.congee.specs.declared.forms.child.Child.TheVariants.{Blank}
use Rattle.congee.specs.declared.protocol.store.Refusal.{Refusal}
use Rattle.congee.specs.declared.protocol.store.Refusal.TheVariants.{Budget, Cells, Memory}
use Rattle.congee.specs.forms.Forms.{capacity_of, size_of}
use Rattle.congee.specs.Heap.{Nothing, Holds}
use Rattle.congee.specs.protocol.Events.{hung, weight, kept, HoldsValues, HoldsNodes}
use Rattle.joint.specs.declared.id.Id.{Id}
use Rattle.joint.specs.declared.nodes.slot.Slot.{Slot}
use Rattle.joint.specs.nodes.Nodes.{total, size}
use Rattle.joint.specs.nodes.Solid.{IsWhole}
use Rattle.joint.specs.nodes.View.{id_number, node_of}

-- the value of one name is another, and nothing else is
pub record Alters {T : Type 0} (st : Store T) (n : Name) (old new : T) (st' : Store T) : Type 0 where
  pub was : value_at st n ≡ Some old
  pub sets : Sets st n (Some new) st'
  pub sums : (f : T → ℕ) → total f st' + f old ≡ total f st + f new
  pub turns : (i : ℕ) → (cell_at st' i).turns ≡ (cell_at st i).turns
  pub wide : length st'.cells ≡ length st.cells
  pub most : st'.most ≡ st.most
  pub turn_max : st'.turn_max ≡ st.turn_max

-- the slot's node has the child at the byte, and nothing else is changed
pub record Hangs {P : Type 0} (s : Slot P) (b : ℕ) (child : Child Id P) (s' : Slot P) : Type 0 where
  pub word : s'.word ≡ s.word
  pub size_is : size s' ≡ size s
  pub whole : IsWhole s'.node
  pub prefix : (node_of s').prefix ≡ (node_of s).prefix
  pub capacity : (node_of s').capacity ≡ (node_of s).capacity
  pub child_is : (node_of s').children b ≡ hung id_number child
  pub beside : (c : ℕ) → c ≢ b → (node_of s').children c ≡ (node_of s).children c
  pub count : (node_of s').count + weight ((node_of s).children b) ≡ (node_of s).count + weight (hung id_number child)

-- the value at the byte is out of the slot's node, and nothing else is changed
pub record Pulls {P : Type 0} (s : Slot P) (b : ℕ) (value : P) (s' : Slot P) : Type 0 where
  pub was : (node_of s).children b ≡ Holds value
  pub hangs : Hangs s b Blank s'

-- a value is put under the next name of a usable cell
pub record Fills {T : Type 0} (st : Store T) (n : Name) (v : T) (st' : Store T) : Type 0 where
  pub next : IsNext st n
  pub state : st' ≡ placed st n v
  pub vacant : value_at st n ≡ None
  pub ungiven : was_given st n ≡ false
  pub sets : Sets st n (Some v) st'

-- the value of a name is taken out
pub record Empties {T : Type 0} (st : Store T) (n : Name) (old : T) (st' : Store T) : Type 0 where
  pub was : value_at st n ≡ Some old
  pub sets : Sets st n None st'
  pub sums : (f : T → ℕ) → total f st' + f old ≡ total f st
  pub turns : (i : ℕ) → (cell_at st' i).turns ≡ (cell_at st i).turns
  pub wide : length st'.cells ≡ length st.cells
  pub most : st'.most ≡ st.most
  pub turn_max : st'.turn_max ≡ st.turn_max

-- a new slot: an empty node of the form, with a free lock word
pub record IsNewSlot {P : Type 0} (s : Slot P) (form : NodeType) (prefix : List ℕ) : Type 0 where
  pub whole : IsWhole s.node
  pub size_is : size s ≡ size_of form
  pub prefix_is : (node_of s).prefix ≡ prefix
  pub blank : (b : ℕ) → (node_of s).children b ≡ Nothing
  pub empty : (node_of s).count ≡ 0
  pub capacity : (node_of s).capacity ≡ capacity_of form
  pub word : s.word ≡ record { version = 0; locked = false; obsolete = false; retired = false }

-- why there is no slot for a node more, though it is charged
abbrev pub IsNoSlot : {T : Type 0} → Store T → Refusal → Type 0
IsNoSlot st Cells = (i : ℕ) → is_usable st i ≡ false
IsNoSlot st Memory = (i : ℕ) × (is_usable st i ≡ true)
IsNoSlot st _ = ⊥

-- why a node isn't charged
abbrev pub IsOverBudget : ℕ → ℕ → ℕ → Refusal → Type 0
IsOverBudget charge limit size (Budget charged wanted most) = (limit < charge + size) × (charged ≡ charge) × (wanted ≡ size) × (most ≡ limit)
IsOverBudget charge limit size _ = ⊥

-- one slot's children go over into another, which was empty: values are moved, and the names of nodes stay in the first too
pub record MovesTo {P : Type 0} (a b a' b' : Slot P) : Type 0 where
  pub word_old : a'.word ≡ a.word
  pub word : b'.word ≡ b.word
  pub size_old : size a' ≡ size a
  pub size_is : size b' ≡ size b
  pub whole_old : IsWhole a'.node
  pub whole : IsWhole b'.node
  pub prefix_old : (node_of a').prefix ≡ (node_of a).prefix
  pub prefix : (node_of b').prefix ≡ (node_of b).prefix
  pub capacity : (node_of b').capacity ≡ (node_of b).capacity
  pub children : (k : ℕ) → (node_of b').children k ≡ (node_of a).children k
  pub count : (node_of b').count ≡ (node_of a).count
  pub capacity_old : (node_of a').capacity ≡ (node_of a).capacity
  pub left : (k : ℕ) → (node_of a').children k ≡ kept ((node_of a).children k)
  pub none_left : HoldsValues (node_of a) → (node_of a').count ≡ 0
  pub all_left : HoldsNodes (node_of a) → (node_of a').count ≡ (node_of a).count

-- the values of two names are others, and nothing else is
pub record Exchanges {T : Type 0} (st : Store T) (m n : Name) (a b a' b' : T) (st' : Store T) : Type 0 where
  pub was_old : value_at st m ≡ Some a
  pub was : value_at st n ≡ Some b
  pub is_old : value_at st' m ≡ Some a'
  pub is : value_at st' n ≡ Some b'
  pub given : (x : Name) → was_given st' x ≡ was_given st x
  pub others : (x : Name) → x ≢ m → x ≢ n → value_at st' x ≡ value_at st x
  pub sums : (f : T → ℕ) → total f st' + f a + f b ≡ total f st + f a' + f b'
  pub turns : (i : ℕ) → (cell_at st' i).turns ≡ (cell_at st i).turns
  pub wide : length st'.cells ≡ length st.cells
  pub most : st'.most ≡ st.most
  pub turn_max : st'.turn_max ≡ st.turn_max
