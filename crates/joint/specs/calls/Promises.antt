-- What is promised of one run, from an index's opening on: all of it in one place.
use Rattle.std.specs.Prelude.{◌≡◌, ℕ, ◌≤◌, Bool, List, ◌++◌, length}
use Rattle.std.specs.FinMap.{empty}
use Rattle.joint.specs.declared.limits.Limits.{Limits}
use Rattle.joint.specs.declared.steps.Report.{Report}
use Rattle.joint.specs.declared.steps.Step.{Step}
use Rattle.joint.specs.calls.Alone.{AllEndAlone}
use Rattle.joint.specs.engine.Census.{waiting_nodes}
use Rattle.joint.specs.calls.Plain.{AreTold, AreUnrefused, answers, opened_plain, projection}
use Rattle.joint.specs.calls.Rounds.{IsQuiet, Round, AreRounds, steps_in, bags_left, rounds_wanted, CameBack}
use Rattle.joint.specs.calls.Runs.{Taken, after_all, IsRun, RunsMap, AllSpare}
use Rattle.joint.specs.engine.Engine.{World}
use Rattle.joint.specs.engine.Flying.{no_flights}
use Rattle.joint.specs.calls.Scans.{ScansHold, EmptyScansHold}
use Rattle.joint.specs.world.World.{IsNew}

-- a run of these steps, which told this, from the opening of an index with these limits to the state s'
pub record KeepsPromises {V : Type 0} (same : V → V → Bool) (always : Bool) (limits : Limits) (steps : List (Step V)) (reports : List (Report V)) (s' : World V) : Type 0 where
  -- the index as it was opened
  pub opened : World V
  pub is_new : IsNew limits opened
  -- the calls on single keys that took effect answer as one ordered map, in the order of their deciding steps, each within
  -- its call
  pub one_map : RunsMap same no_flights empty steps reports s'
  -- each scan that is done gives ascending pairs that stood during it, and skips no key that stood throughout, unless its
  -- places are full of lesser ones
  pub scans : ScansHold one_map.lines
  pub empty_scans : EmptyScansHold one_map.lines
  -- where nothing is refused on the tree, what is told on the tree is what the plain run of the steps on the tree tells, which knows no
  -- collector
  pub unseen : AreUnrefused reports → AreTold same limits.version_max opened_plain (projection steps reports) (answers steps reports)
  -- its steps, with the state after each
  pub run : IsRun same always opened steps reports s'
  -- no step destroys a node in use
  pub spares : AllSpare opened run.taken
  -- rounds of one worker from a quiet state on, as many as the nodes that wait there want, leave tree nodes alone and what
  -- waits in the unsealed bags of other workers; the bags that are queued after the first flush want no more
  pub comes_back : (before after : List (Taken V)) (who : ℕ) (rounds : List (Round V)) → run.taken ≡ before ++ (steps_in rounds ++ after) → IsQuiet (after_all opened before) → AreRounds who rounds
      → rounds_wanted (length (waiting_nodes (after_all opened before))) ≤ length rounds → CameBack (after_all (after_all opened before) (steps_in rounds)) who
  pub bags_come_back : (before after : List (Taken V)) (who : ℕ) (rounds : List (Round V)) → run.taken ≡ before ++ (steps_in rounds ++ after) → IsQuiet (after_all opened before) → AreRounds who rounds
      → rounds_wanted (bags_left (after_all opened before) rounds) ≤ length rounds → CameBack (after_all (after_all opened before) (steps_in rounds)) who
  -- and so in the end, where the last steps are such rounds
  pub ends_so : (before : List (Taken V)) (who : ℕ) (rounds : List (Round V)) → run.taken ≡ before ++ steps_in rounds → IsQuiet (after_all opened before) → AreRounds who rounds
      → rounds_wanted (length (waiting_nodes (after_all opened before))) ≤ length rounds → CameBack s' who
  -- a call whose steps nobody else's come between, while no other call holds a lock, ends within its number of steps
  pub alone : AllEndAlone opened run.taken
