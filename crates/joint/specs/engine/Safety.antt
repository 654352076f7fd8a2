-- The whole: the collector with the nodes in its cells, and the calls on the tree.
use Rattle.std.specs.Prelude.{◌≡◌, ◌<◌, ℕ, suc, Bool, true, List, Option, None, Some, is_some, length, slice_get}
use Rattle.crossbeam_epoch.specs.Limits.{bag_places}
use Rattle.crossbeam_epoch.specs.declared.bag.Work.TheVariants.{Remove}
use Rattle.crossbeam_epoch.specs.declared.names.Name.{Name}
use Rattle.crossbeam_epoch.specs.declared.world.participant.Phase.TheVariants.{Idle}
use Rattle.crossbeam_epoch.specs.declared.world.report.Event.{Event}
use Rattle.crossbeam_epoch.specs.declared.world.report.Report.{Report}
use Rattle.crossbeam_epoch.specs.world.History.{WasDeferred}
use Rattle.crossbeam_epoch.specs.world.Machine.{State, place, deferred, with_store}
use Rattle.crossbeam_epoch.specs.world.Progress.{Moves}
use Rattle.crossbeam_epoch.specs.world.Reach.{Moment, marks_of, WasIn}
use Rattle.crossbeam_epoch.specs.world.Steps.{IsReport, after}
use Rattle.crossbeam_epoch.specs.world.Store.{value_at}
use Rattle.congee.specs.declared.protocol.machine.Machine.{Machine}
use Rattle.congee.specs.declared.protocol.phase.Phase.TheVariants.{Ended}
use Rattle.congee.specs.declared.protocol.run.Step.{Step}
use Rattle.congee.specs.declared.protocol.machine.Move.{Move}
use Rattle.congee.specs.protocol.Answers.{SameMap}
use Rattle.congee.specs.protocol.Bounds.{Within}
use Rattle.congee.specs.protocol.State.{retiring}
use Rattle.joint.specs.declared.id.Id.{Id}
use Rattle.joint.specs.declared.nodes.slot.Slot.{Slot}
use Rattle.joint.specs.engine.Filed.{IsFiled}
use Rattle.joint.specs.nodes.Nodes.{Nodes, nodes, Refuses, IsBeside, IsCharged}
use Rattle.congee.specs.protocol.Destroys.{Destroys}
use Rattle.congee.specs.protocol.Play.{StepPlays}
use Rattle.joint.specs.engine.Sound.{IsUnderWay, IsSecured, Sound}
use Rattle.joint.specs.nodes.View.{view, id_number}
use Rattle.joint.specs.nodes.Slots.{slot_names}

-- some history of the collector tells that all is sound
pub record IsSound {J V : Type 0} (same : V → V → Bool) (always : Bool) (s : State (Slot V) J) (ms : List (Machine Id V)) : Type 0 where
  pub top : Name
  pub past : List Moment
  pub sound : Sound slot_names view id_number same always top past s ms

-- the worker has no call on the tree in flight
abbrev pub Rests : {V : Type 0} → List (Machine Id V) → ℕ → Type 0
Rests {V} ms who = (m : Machine Id V) → slice_get ms who ≡ Some m → m.phase ≡ Ended

-- and no version is past the greatest
pub record IsSafe {V : Type 0} (same : V → V → Bool) (always : Bool) (s : Nodes V) (ms : List (Machine Id V)) : Type 0 where
  pub sound : IsSound same always s.collector ms
  pub within : Within s.version_max (nodes s)

-- the worker has a call on the tree in flight
abbrev pub Runs : {V : Type 0} → List (Machine Id V) → ℕ → Type 0
Runs {V} ms who = (m : Machine Id V) × (slice_get ms who ≡ Some m) × IsUnderWay m.phase

-- the node that the next step of a call hands over for its destruction
abbrev pub retiring_at : {V : Type 0} → Option (Machine Id V) → Option Id
retiring_at None = None
retiring_at (Some m) = retiring m.phase

-- all is safe, and the worker has marked a node whose destruction is to be deferred into a place that it secured: it was
-- in reach, and its removal wasn't deferred before; with it the places hold what the call may still hand over
pub record Owes {V : Type 0} (same : V → V → Bool) (always : Bool) (s : Nodes V) (ms : List (Machine Id V)) (who : ℕ) (node : Id) : Type 0 where
  pub safe : IsSafe same always s ms
  pub marked : (nodes s (id_number node)).retired ≡ true
  pub stands : is_some (value_at s.collector.store node.name) ≡ true
  pub was : WasIn safe.sound.past node.name
  pub fresh : (t : ℕ) → WasDeferred (marks_of safe.sound.past) t node.name → ⊥
  pub registered : (place s.collector who).registered ≡ true
  pub pinned : is_some (place s.collector who).word ≡ true
  pub idle : (place s.collector who).phase ≡ Idle
  pub room : length (place s.collector who).bag < bag_places
  pub secured : (m : Machine Id V) → slice_get ms who ≡ Some m → IsSecured m.kind m.phase (suc (length (place s.collector who).bag))

-- all is safe, but for the deferral of the node that the step marked
abbrev pub IsSafeOrOwes : {V : Type 0} → (V → V → Bool) → Bool → Option Id → Nodes V → List (Machine Id V) → ℕ → Type 0
IsSafeOrOwes same always None s ms who = IsSafe same always s ms
IsSafeOrOwes same always (Some node) s ms who = Owes same always s ms who node

-- the collector after a step that marks this node
abbrev pub after_walk : {T : Type 0} → Option Id → State T (Unit {0}) → ℕ → State T (Unit {0})
after_walk None s who = s
after_walk (Some node) s who = deferred s who (Remove node.name)

-- one step of a worker's call on the tree: it plays as the tree's protocol says, the node that it marks is deferred
-- into a place that the worker secured, and nothing else of the collector changes but the cells
pub record Walked {V : Type 0} (same : V → V → Bool) (always : Bool) (s : Nodes V) (ms : List (Machine Id V)) (step : Step Id V) (d : Move V) (s' : Nodes V) (ms' : List (Machine Id V)) : Type 0 where
  pub safe : IsSafe same always s' ms'
  pub plays : StepPlays id_number same always s.version_max (Refuses s) (nodes s) ms step d (nodes s') ms'
  pub beside : IsBeside s s'
  pub collector_is : s'.collector ≡ after_walk (retiring_at (slice_get ms step.who)) (with_store s.collector s'.collector.store) step.who
  pub filed : IsFiled s → IsFiled s'

-- one step of the collector under calls on the tree: the pairs stay, what goes waited, and no call has it
pub record Collected {V : Type 0} (same : V → V → Bool) (always : Bool) (s : Nodes V) (ms : List (Machine Id V)) (who : ℕ) (event : Event) (r : Report) (s' : Nodes V) : Type 0 where
  pub safe : IsSafe same always s' ms
  pub report : IsReport s.collector who event r
  pub state : s'.collector ≡ after s.collector who event r.outcome
  pub moves : Moves s.collector who r.called s'.collector
  pub map : SameMap (nodes s) (nodes s')
  pub destroys : Destroys id_number (nodes s) ms (nodes s')
  pub beside : IsBeside s s'
  pub charged : IsCharged s'
  pub filed : IsFiled s → IsFiled s'
