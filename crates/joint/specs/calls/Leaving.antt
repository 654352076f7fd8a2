-- How nodes leave the tree in a run: each by the call that took it out, two at most, which hands it over once; and whose the
-- locks are.
use Rattle.std.specs.Prelude.{◌≡◌, ◌≢◌, ◌<◌, ◌⊎◌, ℕ, true, false, List, [], ◌∷◌, Option, Some, is_some, length}
use Rattle.crossbeam_epoch.specs.Limits.{bag_places}
use Rattle.crossbeam_epoch.specs.declared.bag.Work.TheVariants.{Remove}
use Rattle.crossbeam_epoch.specs.declared.names.Name.{Name}
use Rattle.crossbeam_epoch.specs.declared.world.participant.Phase.TheVariants as collector_phase
use Rattle.crossbeam_epoch.specs.world.Machine.{place, deferred, with_store}
use Rattle.congee.specs.Heap.{Stands}
use Rattle.congee.specs.protocol.Handing.{InTree, IsOut, is_handed_over}
use Rattle.joint.specs.declared.steps.Event.TheVariants.{Begin}
use Rattle.joint.specs.declared.steps.Op.{Op}
use Rattle.joint.specs.calls.Ends.{HoldsLock}
use Rattle.joint.specs.nodes.Nodes.{Nodes, nodes}
use Rattle.joint.specs.Names.{number}
use Rattle.joint.specs.calls.Runs.{Taken}
use Rattle.joint.specs.world.Whereabouts.{IsWaiting, IsDestroyed, IsTakenBy}
use Rattle.joint.specs.engine.Engine.{World}
use Rattle.joint.specs.Reports.{is_in_flight}

-- a worker's step takes the node out of the tree, and with it one other at most: its call had taken out none, and has this
-- one then
pub record TakesOut {V : Type 0} (s s' : World V) (who n : ℕ) : Type 0 where
  pub was : InTree (nodes s.forest) n
  pub out : IsOut (nodes s'.forest) n
  pub none : (m : ℕ) → IsTakenBy s who m → ⊥
  pub taken : IsTakenBy s' who n
  pub with_it : Option ℕ
  pub others : (m : ℕ) → m ≢ n → InTree (nodes s.forest) m → InTree (nodes s'.forest) m ⊎ (with_it ≡ Some m)

-- a worker's step hands over a node that stands out of the tree, marked and locked: one deferral of its destruction, under
-- the worker's guard, into a free place of the worker's bag, and nothing else of the collector changes but the cells
pub record HandsOver {V : Type 0} (s s' : Nodes V) (who n : ℕ) : Type 0 where
  pub name : Name
  pub is : number name ≡ n
  pub stands : Stands (nodes s n)
  pub out : IsOut (nodes s) n
  pub marked : (nodes s n).obsolete ≡ true
  pub locked : (nodes s n).locked ≡ true
  pub before : (nodes s n).retired ≡ false
  pub after : (nodes s' n).retired ≡ true
  pub registered : (place s.collector who).registered ≡ true
  pub pinned : is_some (place s.collector who).word ≡ true
  pub idle : (place s.collector who).phase ≡ collector_phase.Idle
  pub room : length (place s.collector who).bag < bag_places
  pub deferral : s'.collector ≡ deferred (with_store s.collector s'.collector.store) who (Remove name)

-- a node that left the tree stays out of it, locked as it was, marked if it was, and with its child nodes
pub record StaysLeft {V : Type 0} (s s' : World V) (n : ℕ) : Type 0 where
  pub waits : IsWaiting s' n
  pub locked : (nodes s'.forest n).locked ≡ (nodes s.forest n).locked
  pub marked : (nodes s.forest n).obsolete ≡ true → (nodes s'.forest n).obsolete ≡ true
  pub children : (b : ℕ) → (nodes s'.forest n).children b ≡ (nodes s.forest n).children b

-- what a step makes of the nodes of the tree, of those that calls have taken out, and of those that were handed over
pub record LeavesRightly {V : Type 0} (s : World V) (t : Taken V) : Type 0 where
  -- a node stays in the tree, or the step's call takes it out as it takes effect
  pub leaves : (n : ℕ) → InTree (nodes s.forest) n → InTree (nodes t.after.forest) n ⊎ (TakesOut s t.after t.step.worker n × (t.report.decided ≡ true))
  -- a call has each node that it took out until it hands it over
  pub owed : (i n : ℕ) → IsTakenBy s i n → IsTakenBy t.after i n ⊎ ((t.step.worker ≡ i) × HandsOver s.forest t.after.forest i n)
  -- no other is handed over
  pub handed : (n : ℕ) → is_handed_over (nodes s.forest n) ≡ false → is_handed_over (nodes t.after.forest n) ≡ true → IsTakenBy s t.step.worker n × HandsOver s.forest t.after.forest t.step.worker n
  -- and nothing else is deferred
  pub defers : (t.after.forest.collector.next ≡ s.forest.collector.next) ⊎ ((n : ℕ) × IsTakenBy s t.step.worker n × HandsOver s.forest t.after.forest t.step.worker n)
  -- a node that left stays so until it is destroyed
  pub left : (n : ℕ) → IsWaiting s n → StaysLeft s t.after n ⊎ IsDestroyed t.after n

-- the worker begins another call
pub record BeginsAnew {V : Type 0} (who : ℕ) (t : Taken V) : Type 0 where
  pub worker : t.step.worker ≡ who
  pub op : Op V
  pub begins : t.step.event ≡ Begin op
  pub on : is_in_flight t.report.outcome ≡ true

-- no step of the worker's takes a node out of the tree before it begins another call
abbrev pub TakesNone : {V : Type 0} → ℕ → World V → List (Taken V) → Type 0
TakesNone who s [] = Unit {0}
TakesNone who s (t ∷ ts) = BeginsAnew who t ⊎ ((t.step.worker ≡ who → (n : ℕ) → InTree (nodes s.forest) n → InTree (nodes t.after.forest) n) × TakesNone who t.after ts)

-- no step hands the node over
abbrev pub HandsNone : {V : Type 0} → ℕ → World V → List (Taken V) → Type 0
HandsNone n s [] = Unit {0}
HandsNone n s (t ∷ ts) = (HandsOver s.forest t.after.forest t.step.worker n → ⊥) × HandsNone n t.after ts

-- a step and those after it: its call takes no node out of the tree at another step than the one at which it takes out one,
-- or two, and the one that a step hands over isn't handed over again
pub record LeavesOnce {V : Type 0} (s : World V) (t : Taken V) (ts : List (Taken V)) : Type 0 where
  pub step : LeavesRightly s t
  pub one : (n : ℕ) → TakesOut s t.after t.step.worker n → TakesNone t.step.worker t.after ts
  pub once : (n : ℕ) → HandsOver s.forest t.after.forest t.step.worker n → HandsNone n t.after ts

-- each step of a run
abbrev pub AllLeaveOnce : {V : Type 0} → World V → List (Taken V) → Type 0
AllLeaveOnce s [] = Unit {0}
AllLeaveOnce s (t ∷ ts) = LeavesOnce s t ts × AllLeaveOnce t.after ts

-- no two workers' calls hold the lock of one node
abbrev pub LocksApart : {V : Type 0} → World V → Type 0
LocksApart s = (i j n : ℕ) → HoldsLock s i n → HoldsLock s j n → i ≡ j

-- each node that a call holds locked is locked
abbrev pub LocksHeld : {V : Type 0} → World V → Type 0
LocksHeld s = (i n : ℕ) → HoldsLock s i n → (nodes s.forest n).locked ≡ true

-- each node that was marked obsolete and stands has left the tree
abbrev pub MarkedLeft : {V : Type 0} → World V → Type 0
MarkedLeft s = (n : ℕ) → Stands (nodes s.forest n) → (nodes s.forest n).obsolete ≡ true → IsWaiting s n

-- and what left is locked
abbrev pub LeftLocked : {V : Type 0} → World V → Type 0
LeftLocked s = (n : ℕ) → IsWaiting s n → (nodes s.forest n).locked ≡ true
