-- The nodes as they begin: a root alone.
use Rattle.std.specs.Prelude.{◌≡◌, ℕ, ◌+◌, ◌^◌, ◌<◌, ◌≤◌, false, List, [], ◌∷◌, Some, vec_capacity}
use Rattle.crossbeam_epoch.specs.declared.names.Name.{Name}
use Rattle.crossbeam_epoch.specs.declared.names.Ptr.{Ptr}
use Rattle.crossbeam_epoch.specs.declared.limits.Limits.{Limits as EpochLimits}
use Rattle.crossbeam_epoch.specs.world.Machine.{State, opened, with_store, with_roots}
use Rattle.crossbeam_epoch.specs.world.Store.{opened_store}
use Rattle.congee.specs.declared.forms.base_node.NodeType.TheVariants.{N256}
use Rattle.crossbeam_epoch.specs.world.Progress.{IsResting}
use Rattle.crossbeam_epoch.specs.world.Reach.{Quiet, moment, HasMoments}
use Rattle.congee.specs.Heap.{Node}
use Rattle.congee.specs.protocol.Bounds.{Within}
use Rattle.congee.specs.protocol.Opening.{FreshRoot}
use Rattle.joint.specs.declared.limits.Limits.{Limits}
use Rattle.joint.specs.declared.nodes.counts.Counts.{Counts}
use Rattle.joint.specs.declared.refusal.Refusal.{Refusal}
use Rattle.joint.specs.declared.nodes.slot.Slot.{Slot}
use Rattle.joint.specs.declared.refusal.Refusal.TheVariants as refusal
use Rattle.joint.specs.nodes.Altering.{Fills, IsNewSlot}
use Rattle.joint.specs.nodes.Nodes.{Nodes, nodes}
use Rattle.joint.specs.Limits.{AreAllowed}
use Rattle.joint.specs.nodes.Slots.{slot_names}
use Rattle.joint.specs.nodes.Ties.{Rooted}

-- the root's name, which is the first that is given
abbrev pub top : Name
top = record { cell = 0; turn = 0 }

-- the collector's roots: a pointer to it alone
abbrev pub top_roots : List Ptr
top_roots = record { name = Some top; tag = 0 } ∷ []

-- the root has no child, and nobody has locked or marked it
pub record IsNewRoot {V : Type 0} (n : Node V) : Type 0 where
  pub childless : n.count ≡ 0
  pub first : n.version ≡ 0
  pub live : n.obsolete ≡ false

-- a root alone, charged within the limit; nobody is registered, and one root of the collector holds it
pub record IsOpened {V : Type 0} (limits : Limits) (charge limit : ℕ) (s : Nodes V) : Type 0 where
  pub allowed : AreAllowed limits
  pub fresh : FreshRoot (nodes s)
  pub bare : IsNewRoot (nodes s 0)
  pub within : Within limits.version_max (nodes s)
  pub rooted : Rooted s.collector.roots top
  pub resting : IsResting s.collector
  pub collector_is : s.collector ≡ with_roots (with_store (opened limits.epoch 1) s.collector.store) top_roots
  pub told : HasMoments slot_names (moment slot_names Quiet s.collector ∷ []) s.collector
  pub base : s.base ≡ charge
  pub fits : charge + 2104 ≤ limit
  pub charged : s.charge ≡ charge + 2104
  pub limit_is : s.limit ≡ limit
  pub versions : s.version_max ≡ limits.version_max

-- why there is none, in this order
abbrev pub IsUnopened : Limits → ℕ → ℕ → Refusal → Type 0
IsUnopened limits charge limit refusal.Limits = AreAllowed limits → ⊥
IsUnopened limits charge limit (refusal.Budget c w l) = AreAllowed limits × (limit < charge + 2104) × (c ≡ charge) × (w ≡ 2104) × (l ≡ limit)
IsUnopened limits charge limit refusal.Memory = AreAllowed limits × (charge + 2104 ≤ limit)
IsUnopened limits charge limit _ = ⊥

-- so many places are too few for a journal, or too many; else there is none as above
abbrev pub HasPlaces : ℕ → Type 0
HasPlaces places = (1 ≤ places) × (places ≤ 4294967295)

-- why there is none that keeps a journal of so many places
abbrev pub IsUnjournaled : Limits → ℕ → ℕ → ℕ → Refusal → Type 0
IsUnjournaled limits places charge limit refusal.Limits = AreAllowed limits × HasPlaces places → ⊥
IsUnjournaled limits places charge limit e = HasPlaces places × IsUnopened limits charge limit e

-- or no part of a ledger was to count its calls
abbrev pub IsUnshared : Limits → ℕ → ℕ → ℕ → ℕ → Refusal → Type 0
IsUnshared limits places parts charge limit refusal.Limits = AreAllowed limits × HasPlaces places × (0 < parts) → ⊥
IsUnshared limits places parts charge limit e = (0 < parts) × IsUnjournaled limits places charge limit e

-- the collector and the counts with a root alone, before anything is charged
pub record IsPlanted {V : Type 0} (limits : EpochLimits) (c : State (Slot V) (Unit {0})) (k : Counts) : Type 0 where
  pub collector_is : c ≡ with_roots (with_store (opened limits 1) c.store) top_roots
  pub root : (s : Slot V) × (Fills (opened_store {T = Slot V} limits.cells limits.turn_max) top s c.store × IsNewSlot s N256 [])
  pub told : HasMoments slot_names (moment slot_names Quiet c ∷ []) c
  pub resting : IsResting c
  pub cell_marks : k.cell_marks.items ≡ record { form = N256; waits = false } ∷ []
  pub one : k.standing ≡ 1
  pub none : k.waiting ≡ 0
  pub no_bytes : k.waiting_bytes ≡ 0
  pub room : limits.cells ≤ vec_capacity k.cell_marks
  pub last : limits.turn_max < 2 ^ 32
