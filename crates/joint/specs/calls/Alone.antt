-- A worker's call whose steps nobody else's come between.
use Rattle.std.specs.Prelude.{◌≡◌, ℕ, ◌+◌, ◌*◌, ◌≤◌, ◌<◌, false, true, List, [], ◌∷◌, length, take, slice_get, Option, Some}
use Rattle.congee.specs.declared.protocol.machine.Machine.{Machine}
use Rattle.congee.specs.declared.protocol.machine.Noise.{Noise}
use Rattle.congee.specs.protocol.Alone.{NoOtherLocks, HasAnswer, tree_nodes, tree_pairs}
use Rattle.joint.specs.declared.id.Id.{Id}
use Rattle.joint.specs.declared.steps.Event.TheVariants.{Begin, Go}
use Rattle.joint.specs.declared.steps.Op.{Op}
use Rattle.joint.specs.declared.steps.Op.TheVariants.{Pin, Unpin, Repin, Flush, Release, Range, RangeInclusive, Keys, IsEmpty, Stats}
use Rattle.joint.specs.declared.steps.Report.{Report}
use Rattle.joint.specs.Reports.{goes_unasked, is_in_flight}
use Rattle.joint.specs.nodes.Nodes.{nodes}
use Rattle.joint.specs.calls.Runs.{Taken}
use Rattle.joint.specs.nodes.View.{id_number}
use Rattle.joint.specs.engine.Engine.{World}

-- no call of another worker holds a lock
abbrev pub OthersUnlocked : {V : Type 0} → World V → ℕ → Type 0
OthersUnlocked s who = NoOtherLocks id_number who s.machines

-- the next step of the worker's call: no exchange is to fail in it, and where it takes its closure's answer it has one
pub record IsNext {V : Type 0} (who : ℕ) (s : World V) (t : Taken V) : Type 0 where
  pub noise : Noise Id V
  pub step : t.step ≡ record { worker = who; event = Go noise }
  pub unfailed : noise.fail ≡ false
  pub answered : (m : Machine Id V) → slice_get s.machines who ≡ Some m → HasAnswer m.kind m.phase noise.answer

-- these steps are the worker's call's next ones
abbrev pub AreNext : {V : Type 0} → ℕ → World V → List (Taken V) → Type 0
AreNext who s [] = Unit {0}
AreNext who s (t ∷ ts) = IsNext who s t × AreNext who t.after ts

-- after each of them the call is in flight
abbrev pub AllInFlight : {V : Type 0} → List (Taken V) → Type 0
AllInFlight [] = Unit {0}
AllInFlight (t ∷ ts) = (is_in_flight t.report.outcome ≡ true) × AllInFlight ts

-- within how many steps a call ends that is taken alone, its begin counted: by the number of participants there may be for
-- one on the collector, and by the nodes and the pairs of the tree for a scan
abbrev pub steps_alone : {V : Type 0} → World V → Op V → ℕ
steps_alone s Pin = length s.forest.collector.table + 530
steps_alone s Unpin = 1
steps_alone s Repin = length s.forest.collector.table + 530
steps_alone s Flush = length s.forest.collector.table + 530
steps_alone s Release = length s.forest.collector.table + 530
steps_alone s (Range start end size) = 5 * tree_nodes (nodes s.forest) + 2 * tree_pairs (nodes s.forest) + 2
steps_alone s (RangeInclusive start last size) = 5 * tree_nodes (nodes s.forest) + 2 * tree_pairs (nodes s.forest) + 2
steps_alone s Keys = 1
steps_alone s IsEmpty = 1
steps_alone s Stats = 1
steps_alone s op = 60

-- a step and those after it: where it begins a call while no other call holds a lock, and the first n of those after it are
-- the call's next ones, so many steps don't leave it in flight
abbrev pub EndsAlone : {V : Type 0} → World V → Taken V → List (Taken V) → Type 0
EndsAlone {V} s t ts = (who n : ℕ) (op : Op V) → t.step ≡ record { worker = who; event = Begin op } → OthersUnlocked s who → AreNext who t.after (take n ts) → AllInFlight (t ∷ take n ts) → length (t ∷ take n ts) < steps_alone s op

-- of each step of a run
abbrev pub AllEndAlone : {V : Type 0} → World V → List (Taken V) → Type 0
AllEndAlone s [] = Unit {0}
AllEndAlone s (t ∷ ts) = EndsAlone s t ts × AllEndAlone t.after ts

-- a whole call, for which no other call holds a lock and so many steps are given, ends or wants an answer
abbrev pub CallEndsAlone : {V : Type 0} → World V → ℕ → Op V → ℕ → Option (Report V) → Type 0
CallEndsAlone {V} s who op most result = OthersUnlocked s who → steps_alone s op ≤ most → (r : Report V) → result ≡ Some r → goes_unasked r.outcome ≡ false
