-- Rounds of one worker from a quiet state on, and what they leave of the nodes that wait.
use Rattle.std.specs.Prelude.{◌≡◌, ◌≢◌, ◌⊎◌, ℕ, ◌+◌, ◌≤◌, true, List, [], ◌∷◌, ◌++◌, None, Some, length, slice_get}
use Rattle.std.specs.Int.{div_ceil}
use Rattle.std.specs.List.{Contains}
use Rattle.crossbeam_epoch.specs.Limits.{bag_places, most_bags}
use Rattle.crossbeam_epoch.specs.declared.bag.Deferral.{Deferral as Job}
use Rattle.crossbeam_epoch.specs.declared.bag.Work.TheVariants.{Remove}
use Rattle.congee.specs.declared.protocol.machine.Noise.{Noise}
use Rattle.congee.specs.Heap.{Stands}
use Rattle.joint.specs.declared.engine.in_flight.InFlight.TheVariants.{Idle}
use Rattle.joint.specs.declared.id.Id.{Id}
use Rattle.joint.specs.declared.steps.Done.TheVariants as done
use Rattle.joint.specs.declared.steps.Event.TheVariants.{Begin, Go}
use Rattle.joint.specs.declared.steps.Op.{Op}
use Rattle.joint.specs.declared.steps.Op.TheVariants.{Pin, Unpin, Flush}
use Rattle.joint.specs.declared.steps.Outcome.{Outcome}
use Rattle.joint.specs.declared.steps.Outcome.TheVariants.{Running, Done}
use Rattle.joint.specs.nodes.Nodes.{nodes}
use Rattle.joint.specs.Names.{named}
use Rattle.joint.specs.calls.Runs.{Taken, after_all}
use Rattle.joint.specs.world.Whereabouts.{IsInTree, IsWaiting}
use Rattle.joint.specs.engine.Engine.{World, place_of}

-- every registered worker is between calls and unpinned, and the epoch is at least three below its greatest
pub record IsQuiet {V : Type 0} (s : World V) : Type 0 where
  pub idle : (i : ℕ) → (place_of s i).registered ≡ true → slice_get s.calls i ≡ Some Idle
  pub unpinned : (i : ℕ) → (place_of s i).registered ≡ true → (place_of s i).word ≡ None
  pub far : s.forest.collector.epoch + 3 ≤ s.forest.collector.limits.epoch_max

-- the steps of a worker's call after the one that told this outcome, to the last one, which is done
abbrev pub GoesToEnd : {V : Type 0} → ℕ → Outcome V → List (Taken V) → Type 0
GoesToEnd who outcome [] = outcome ≡ Done done.Unit
GoesToEnd {V} who outcome (t ∷ ts) = (outcome ≡ Running) × ((noise : Noise Id V) × (t.step ≡ record { worker = who; event = Go noise })) × GoesToEnd who t.report.outcome ts

-- a whole call of a worker, from its begin to its end, with no other step between
abbrev pub IsWholeCall : {V : Type 0} → ℕ → Op V → List (Taken V) → Type 0
IsWholeCall who op [] = ⊥
IsWholeCall who op (t ∷ ts) = (t.step ≡ record { worker = who; event = Begin op }) × GoesToEnd who t.report.outcome ts

-- a pin, a flush and an unpin
pub record Round (V : Type 0) : Type 0 where
  pub pin : List (Taken V)
  pub flush : List (Taken V)
  pub unpin : List (Taken V)

-- each of the three is a whole call of the worker's
pub record IsRound {V : Type 0} (who : ℕ) (r : Round V) : Type 0 where
  pub pins : IsWholeCall who Pin r.pin
  pub flushes : IsWholeCall who Flush r.flush
  pub unpins : IsWholeCall who Unpin r.unpin

-- so is each of these rounds
abbrev pub AreRounds : {V : Type 0} → ℕ → List (Round V) → Type 0
AreRounds who [] = Unit {0}
AreRounds who (r ∷ rs) = IsRound who r × AreRounds who rs

-- their steps, one round after another
abbrev pub steps_in : {V : Type 0} → List (Round V) → List (Taken V)
steps_in [] = []
steps_in (r ∷ rs) = (r.pin ++ (r.flush ++ r.unpin)) ++ steps_in rs

-- the bags that are queued after the first flush
abbrev pub bags_left : {V : Type 0} → World V → List (Round V) → ℕ
bags_left s [] = length s.forest.collector.queue
bags_left s (r ∷ rs) = length (after_all s (r.pin ++ r.flush)).forest.collector.queue

-- two rounds, and one more for each eight of those bags
abbrev pub rounds_wanted : ℕ → ℕ
rounds_wanted bags = 2 + div_ceil bags most_bags

-- the node waits, and its removal is in the unsealed bag of another registered worker
pub record IsLeft {V : Type 0} (s : World V) (who n : ℕ) : Type 0 where
  pub waits : IsWaiting s n
  pub worker : ℕ
  pub other : worker ≢ who
  pub registered : (place_of s worker).registered ≡ true
  pub job : Job (Unit {0})
  pub deferred : Contains (place_of s worker).bag job
  pub removal : job.work ≡ Remove (named n)

-- memory came back: each node that stands is in the tree, or is left in such a bag, and no bag has more than 64
pub record CameBack {V : Type 0} (s : World V) (who : ℕ) : Type 0 where
  pub each : (n : ℕ) → Stands (nodes s.forest n) → IsInTree s n ⊎ IsLeft s who n
  pub few : (i : ℕ) → length (place_of s i).bag ≤ bag_places
