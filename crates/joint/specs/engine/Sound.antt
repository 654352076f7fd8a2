-- What holds of tree, calls and collector together between any two steps.
use Rattle.std.specs.Prelude.{◌≡◌, ◌+◌, ◌<◌, ◌≤◌, ℕ, Bool, true, List, Option, None, Some, is_some, length, slice_get, ◌⊎◌}
use Rattle.std.specs.List.{Contains}
use Rattle.crossbeam_epoch.specs.Limits.{bag_places}
use Rattle.crossbeam_epoch.specs.declared.names.Name.{Name}
use Rattle.crossbeam_epoch.specs.declared.world.participant.Participant.{Participant}
use Rattle.crossbeam_epoch.specs.declared.world.participant.Phase.TheVariants.{Idle}
use Rattle.crossbeam_epoch.specs.world.History.{WasDeferred}
use Rattle.crossbeam_epoch.specs.world.Machine.{State, place}
use Rattle.crossbeam_epoch.specs.world.Store.{value_at}
use Rattle.crossbeam_epoch.specs.world.Progress.{Orderly}
use Rattle.crossbeam_epoch.specs.world.Reach.{Moment, marks_of, WasIn, Visible, IsCareful, HasMoments}
use Rattle.congee.specs.declared.protocol.machine.Machine.{Machine}
use Rattle.congee.specs.declared.protocol.phase.Kind.{Kind}
use Rattle.congee.specs.declared.protocol.phase.Kind.TheVariants.{Get}
use Rattle.congee.specs.declared.protocol.phase.Phase.{Phase}
use Rattle.congee.specs.declared.protocol.phase.Phase.TheVariants.{Obsolete, Retire, UnlockBelow, Unlock, Ended}
use Rattle.congee.specs.Heap.{Node}
use Rattle.congee.specs.protocol.Holdings.{MadeBy}
use Rattle.congee.specs.protocol.Names.{names}
use Rattle.congee.specs.protocol.Play.{Settled}
use Rattle.joint.specs.nodes.Heap.{heap_of}
use Rattle.joint.specs.Names.{number}
use Rattle.joint.specs.nodes.Ties.{Rooted}

-- the call has not ended
abbrev pub IsUnderWay : {C V : Type 0} → Phase C V → Type 0
IsUnderWay Ended = ⊥
IsUnderWay _ = Unit {0}

-- so many nodes a call may still hand over: two at most until it has changed the tree, then those that it has taken out;
-- a reading call hands over none
abbrev pub most_left : {C V : Type 0} → Kind V → Phase C V → ℕ
most_left kind (UnlockBelow n p r) = 0
most_left kind (Unlock n r) = 0
most_left kind Ended = 0
most_left kind (Obsolete n None p r) = 1
most_left kind (Obsolete n (Some m) p r) = 2
most_left kind (Retire n None p r) = 1
most_left kind (Retire n (Some m) p r) = 2
most_left Get _ = 0
most_left _ _ = 2

-- and has a place for each in its worker's bag, which holds so many jobs
abbrev pub IsSecured : {C V : Type 0} → Kind V → Phase C V → ℕ → Type 0
IsSecured kind s jobs = jobs + most_left kind s ≤ bag_places

-- a call runs under a guard of its worker's, who has no call on the collector in flight
pub record Guards {C V J : Type 0} (p : Participant J) (m : Machine C V) : Type 0 where
  pub registered : IsUnderWay m.phase → p.registered ≡ true
  pub pinned : IsUnderWay m.phase → is_some p.word ≡ true
  pub idle : IsUnderWay m.phase → p.phase ≡ Idle
  pub secured : IsSecured m.kind m.phase (length p.bag)

-- what holds of tree, calls and collector, after these moments
pub record Sound {T J C V : Type 0} (tnames : T → List Name) (view : Bool → Option T → Node V) (num : C → ℕ) (same : V → V → Bool) (always : Bool) (top : Name) (past : List Moment) (s : State T J) (ms : List (Machine C V)) : Type 0 where
  pub orderly : Orderly s
  pub rooted : Rooted s.roots top
  pub settled : Settled num same always (heap_of view s.store) ms
  pub tells : HasMoments tnames past s
  -- the collector's user keeps what its promise on reach asks
  pub careful : IsCareful past
  -- a removal is deferred only of a node that was handed over, and was in reach before
  pub deferred : (t : ℕ) (n : Name) → WasDeferred (marks_of past) t n → is_some (value_at s.store n) ≡ true → (heap_of view s.store (number n)).retired ≡ true
  pub left : (t : ℕ) (n : Name) → WasDeferred (marks_of past) t n → WasIn past n
  -- each ticket is of the removal of a name, and no name has two
  pub named : (t : ℕ) → t < s.next → (n : Name) × WasDeferred (marks_of past) t n
  pub once : (t u : ℕ) (n : Name) → WasDeferred (marks_of past) t n → WasDeferred (marks_of past) u n → t ≡ u
  -- a node that a call has made and not hung was never in reach
  pub unseen : (i : ℕ) (m : Machine C V) (n : Name) → slice_get ms i ≡ Some m → MadeBy num m.phase (number n) → WasIn past n → ⊥
  -- each other name of a call was in reach during its worker's present stretch
  pub seen : (i : ℕ) (m : Machine C V) (n : Name) → slice_get ms i ≡ Some m → Contains (names num m.phase) (number n) → MadeBy num m.phase (number n) ⊎ Visible past i n
  pub guarded : (i : ℕ) (m : Machine C V) → slice_get ms i ≡ Some m → Guards (place s i) m
