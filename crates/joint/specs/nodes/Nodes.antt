-- The nodes in the collector's cells, and what is charged for them.
use Rattle.std.specs.Prelude.{◌≡◌, ℕ, ◌+◌, ◌^◌, ◌<◌, ◌≤◌, true, false, List, [], length, Option, None, Some, Box, if◌then◌else◌, vec_capacity}
use Rattle.std.specs.List.{sum_by}
use Rattle.crossbeam_epoch.specs.declared.world.cells.Cell.{Cell}
use Rattle.crossbeam_epoch.specs.declared.names.Name.{Name}
use Rattle.crossbeam_epoch.specs.world.Machine.{State, with_store}
use Rattle.crossbeam_epoch.specs.world.Progress.{Orderly}
use Rattle.crossbeam_epoch.specs.world.Store.{Store, cell_at, value_at, is_usable}
use Rattle.congee.specs.declared.forms.base_node.Node.{Node as Form}
use Rattle.congee.specs.declared.forms.base_node.NodeType.{NodeType}
use Rattle.congee.specs.declared.protocol.store.Refusal.{Refusal}
use Rattle.congee.specs.declared.protocol.store.Refusal.TheVariants.{Budget, Cells, Memory, Exhausted, Count}
use Rattle.congee.specs.forms.Forms.{form_of, size_of}
use Rattle.congee.specs.Heap.{Node}
use Rattle.joint.specs.declared.id.Id.{Id}
use Rattle.joint.specs.declared.nodes.slot.Slot.{Slot}
use Rattle.joint.specs.declared.limits.TheConstants.{CELLS_MAX}
use Rattle.joint.specs.declared.nodes.counts.Counts.{Counts}
use Rattle.joint.specs.declared.nodes.counts.CellMark.{CellMark}
use Rattle.joint.specs.nodes.Solid.{IsWhole}
use Rattle.joint.specs.nodes.CellMarks.{mark_at}
use Rattle.joint.specs.nodes.View.{heap}

-- the collector with the nodes, the bytes that the allocator has charged, those it had charged before the first node,
-- those it may charge, and the version at which no node can be locked any more
pub record Nodes (V : Type 0) : Type 0 where
  pub collector : State (Slot V) (Unit {0})
  pub charge : ℕ
  pub base : ℕ
  pub limit : ℕ
  pub version_max : ℕ

-- the collector is another one, and all else is as it was
abbrev pub with_collector : {V : Type 0} → Nodes V → State (Slot V) (Unit {0}) → Nodes V
with_collector s c = record s { collector = c }

-- the nodes by their numbers
abbrev pub nodes : {V : Type 0} → Nodes V → ℕ → Node V
nodes s = heap s.collector.store

-- the size of the node in a slot, in bytes
abbrev pub size_in : {V A : Type 0} → Option (Box (Form Id V) A) → ℕ
size_in None = 0
size_in (Some n) = size_of (form_of n.value)

-- what a slot's node is charged, in bytes
abbrev pub size : {V : Type 0} → Slot V → ℕ
size s = size_in s.node

-- whether it waits for its destruction, as a number
abbrev pub waits : {V : Type 0} → Slot V → ℕ
waits s = if s.word.retired then 1 else 0

-- its size, where it waits
abbrev pub waiting_size : {V : Type 0} → Slot V → ℕ
waiting_size s = if s.word.retired then size s else 0

-- what a function gives for a value that stands, and 0 for none
abbrev pub of_value : {T : Type 0} → (T → ℕ) → Option T → ℕ
of_value f None = 0
of_value f (Some v) = f v

-- the same of a cell
abbrev pub of_cell : {T : Type 0} → (T → ℕ) → Cell T → ℕ
of_cell f c = of_value f c.value

-- the sum over what stands in the cells
abbrev pub total : {T : Type 0} → (T → ℕ) → Store T → ℕ
total f st = sum_by (of_cell f) st.cells

-- the sizes of all nodes
abbrev pub sizes : {V : Type 0} → Store (Slot V) → ℕ
sizes st = total size st

-- how many nodes wait for their destruction
abbrev pub waiting : {V : Type 0} → Store (Slot V) → ℕ
waiting st = total waits st

-- their sizes
abbrev pub waiting_bytes : {V : Type 0} → Store (Slot V) → ℕ
waiting_bytes st = total waiting_size st

-- the charge is that of the nodes that aren't destroyed, above what was charged before
abbrev pub IsCharged : {V : Type 0} → Nodes V → Type 0
IsCharged s = s.charge ≡ s.base + sizes s.collector.store

-- all but the cells and the charge
abbrev pub frame : {V : Type 0} → Nodes V → Nodes V
frame s = record s { collector = with_store s.collector (record s.collector.store { cells = [] }); charge = 0 }

-- why no node of the form is made: the limit, then the cells, then the memory
abbrev pub Refuses : {V : Type 0} → Nodes V → NodeType → Refusal → Type 0
Refuses s form (Budget charged wanted limit) = (s.limit < s.charge + size_of form) × (charged ≡ s.charge) × (wanted ≡ size_of form) × (limit ≡ s.limit)
Refuses s form Cells = (s.charge + size_of form ≤ s.limit) × ((i : ℕ) → is_usable s.collector.store i ≡ false)
Refuses s form Memory = (s.charge + size_of form ≤ s.limit) × ((i : ℕ) × (is_usable s.collector.store i ≡ true))
Refuses s form Exhausted = ⊥
Refuses s form Count = ⊥

-- the mark of a cell is of the slot that stands in it
pub record IsMark {V : Type 0} (s : Slot V) (t : CellMark) : Type 0 where
  pub size_is : size s ≡ size_of t.form
  pub waits_is : s.word.retired ≡ t.waits

-- so is the mark of each cell
abbrev pub IsMarked : {V : Type 0} → Store (Slot V) → List CellMark → Type 0
IsMarked {V} st cell_marks = (n : Name) (s : Slot V) → value_at st n ≡ Some s → IsMark s (mark_at cell_marks n.cell)

-- each slot has its node
abbrev pub AreWhole : {V : Type 0} → Store (Slot V) → Type 0
AreWhole {V} st = (n : Name) (s : Slot V) → value_at st n ≡ Some s → IsWhole s.node

-- what always holds: the counts are those of the cells
pub record IsKept {V : Type 0} (k : Counts) (s : Nodes V) : Type 0 where
  pub orderly : Orderly s.collector
  pub charged : IsCharged s
  pub standing_is : k.standing ≡ total (λ slot. 1) s.collector.store
  pub count_is : k.waiting ≡ waiting s.collector.store
  pub bytes_is : k.waiting_bytes ≡ waiting_bytes s.collector.store
  pub whole : AreWhole s.collector.store
  pub marks_are : IsMarked s.collector.store k.cell_marks.items
  pub wide : length k.cell_marks.items ≡ length s.collector.store.cells
  pub bounded : length s.collector.store.cells ≤ s.collector.store.most
  pub few : s.collector.store.most ≤ CELLS_MAX
  -- each cell was given a name, and none is beyond the greatest
  pub used : (i : ℕ) → i < length s.collector.store.cells → 1 ≤ (cell_at s.collector.store i).turns
  pub turns : (i : ℕ) → (cell_at s.collector.store i).turns ≤ s.collector.store.turn_max + 1
  pub last : s.collector.store.turn_max < 2 ^ 32
  pub roomy : s.collector.store.most ≤ vec_capacity k.cell_marks

-- the name of the cell that a called job destroyed
abbrev pub gone_by : Option (ℕ × Option Name) → Option Name
gone_by None = None
gone_by (Some c) = c.1

-- what doesn't change but by the user's will
pub record IsBeside {V : Type 0} (s s' : Nodes V) : Type 0 where
  pub base : s'.base ≡ s.base
  pub limit : s'.limit ≡ s.limit
  pub versions : s'.version_max ≡ s.version_max
