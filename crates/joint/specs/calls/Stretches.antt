-- What a worker has seen stands until its guard's stretch ends.
use Rattle.std.specs.Prelude.{◌≡◌, ◌⊎◌, ℕ, nat_le, Bool, true, false, List, [], ◌∷◌, None, Some, is_some, slice_get}
use Rattle.std.specs.List.{Contains}
use Rattle.crossbeam_epoch.specs.declared.world.participant.Participant.{Participant}
use Rattle.crossbeam_epoch.specs.declared.world.participant.Phase.{Phase}
use Rattle.crossbeam_epoch.specs.declared.world.participant.Phase.TheVariants.{Publish, RepinPublish}
use Rattle.congee.specs.declared.protocol.machine.Machine.{Machine}
use Rattle.congee.specs.Heap.{Stands}
use Rattle.congee.specs.protocol.Handing.{InTree}
use Rattle.congee.specs.protocol.Holdings.{MadeBy}
use Rattle.congee.specs.protocol.Names.{names}
use Rattle.joint.specs.declared.id.Id.{Id}
use Rattle.joint.specs.declared.steps.Event.{Event}
use Rattle.joint.specs.declared.steps.Event.TheVariants.{Begin, Go}
use Rattle.joint.specs.declared.steps.Op.TheVariants.{Unpin}
use Rattle.joint.specs.nodes.Nodes.{nodes}
use Rattle.joint.specs.calls.Runs.{Taken}
use Rattle.joint.specs.nodes.View.{id_number}
use Rattle.joint.specs.engine.Engine.{World, misuse, place_of}

-- a pin or a repin publishes in its participant's next step
abbrev pub publishes : Phase → Bool
publishes (Publish seen) = true
publishes (RepinPublish seen) = true
publishes _ = false

-- whether a worker's step ends its present stretch: its last guard goes, or it publishes anew
abbrev pub ends_stretch : {V J : Type 0} → Event V → Participant J → Bool
ends_stretch (Begin Unpin) p = nat_le p.guards 1
ends_stretch (Go noise) p = publishes p.phase
ends_stretch _ p = false

-- the worker's step is accepted, and ends it
pub record EndsStretch {V : Type 0} (who : ℕ) (s : World V) (t : Taken V) : Type 0 where
  pub worker : t.step.worker ≡ who
  pub accepted : misuse s who t.step.event ≡ None
  pub ends_it : ends_stretch t.step.event (place_of s who) ≡ true

-- the worker's call has the name of the node, which it hasn't made: it was read in a node above, and checked there
pub record HasChecked {V : Type 0} (s : World V) (who n : ℕ) : Type 0 where
  pub call : Machine Id V
  pub here : slice_get s.machines who ≡ Some call
  pub named : Contains (names id_number call.phase) n
  pub unmade : MadeBy id_number call.phase n → ⊥

-- the worker is pinned, and the node is in the tree or was checked by the worker's call
pub record SeesNode {V : Type 0} (s : World V) (who n : ℕ) : Type 0 where
  pub pinned : is_some (place_of s who).word ≡ true
  pub sees : InTree (nodes s.forest) n ⊎ HasChecked s who n

-- the node stands after each step, until the worker's stretch ends
abbrev pub StandsOn : {V : Type 0} → ℕ → ℕ → World V → List (Taken V) → Type 0
StandsOn who n s [] = Unit {0}
StandsOn who n s (t ∷ ts) = EndsStretch who s t ⊎ (Stands (nodes t.after.forest n) × StandsOn who n t.after ts)
