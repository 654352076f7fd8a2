-- What a worker is told, from what the layer below tells.
use Rattle.std.specs.Prelude.{ℕ, suc, Option, None, Some, Bool, true, false}
use Rattle.crossbeam_epoch.specs.declared.world.report.Op.TheVariants as collector_op
use Rattle.crossbeam_epoch.specs.declared.world.report.Outcome.{Outcome as CollectorOutcome}
use Rattle.crossbeam_epoch.specs.declared.world.report.Outcome.TheVariants as collector_outcome
use Rattle.congee.specs.declared.protocol.op.Op.TheVariants as point
use Rattle.congee.specs.declared.protocol.machine.Outcome.{Outcome as Moved}
use Rattle.congee.specs.declared.protocol.machine.Outcome.TheVariants as moved
use Rattle.judge.specs.declared.journal.Reply.{Reply}
use Rattle.joint.specs.declared.steps.Op.{Op}
use Rattle.joint.specs.declared.steps.Op.TheVariants.{Pin, Unpin, Repin, Flush, Release, Get, Insert, Remove, ComputePresent, ComputeInsert, Exchange, Range, RangeInclusive, Keys, IsEmpty, Stats}
use Rattle.joint.specs.declared.steps.Target.{Target}
use Rattle.joint.specs.declared.steps.Survey.TheVariants as survey
use Rattle.joint.specs.declared.steps.Target.TheVariants.{Collector, Tree, Survey}
use Rattle.joint.specs.declared.steps.Outcome.{Outcome}
use Rattle.joint.specs.declared.steps.Outcome.TheVariants.{Running, Asks, Found, Done, Refused, Registered}
use Rattle.joint.specs.declared.steps.Done.TheVariants as done
use Rattle.joint.specs.Refusals.{of_tree, of_fault}

-- a call as its layer names it
abbrev pub target : {V : Type 0} → Op V → Target V
target Pin = Collector collector_op.Pin
target Unpin = Collector collector_op.Unpin
target Repin = Collector collector_op.Repin
target Flush = Collector collector_op.Flush
target Release = Collector collector_op.Release
target (Get k) = Tree (point.Get k)
target (Insert k v) = Tree (point.Insert k v)
target (Remove k) = Tree (point.Remove k)
target (ComputePresent k) = Tree (point.ComputePresent k)
target (ComputeInsert k) = Tree (point.ComputeInsert k)
target (Exchange k old new) = Tree (point.Exchange k old new)
target (Range start end size) = Tree (point.Range start end size)
target (RangeInclusive start last size) = Tree (point.RangeInclusive start last size)
target Keys = Survey survey.Keys
target IsEmpty = Survey survey.IsEmpty
target Stats = Survey survey.Stats

-- the range of a scan, from its first key to before its end, and the number of its places
abbrev pub range_of : {V : Type 0} → Op V → Option (ℕ × ℕ × ℕ)
range_of (Range start end size) = Some (start, end, size)
range_of (RangeInclusive start last size) = Some (start, suc last, size)
range_of _ = None

-- how a call on the tree stands
abbrev pub told : {V : Type 0} → Moved V → Outcome V
told moved.Running = Running
told (moved.Asks found) = Asks found
told (moved.Found place key value) = Found place key value
told (moved.Done reply) = Done (done.Reply reply)
told (moved.Scanned count) = Done (done.Scanned count)
told (moved.Refused cause) = Refused (of_tree cause)

-- how a call on the collector stands
abbrev pub collected : {V : Type 0} → CollectorOutcome → Outcome V
collected collector_outcome.Running = Running
collected collector_outcome.Done = Done done.Unit
collected (collector_outcome.Refused fault) = Refused (of_fault fault)

-- the reply with which a call on one key has ended, if it has
abbrev pub reply_in : {V : Type 0} → Outcome V → Option (Reply V)
reply_in (Done (done.Reply r)) = Some r
reply_in _ = None

-- how many of its places a scan has filled that has ended, if it has
abbrev pub scanned_in : {V : Type 0} → Outcome V → Option ℕ
scanned_in (Done (done.Scanned n)) = Some n
scanned_in _ = None

-- whether a report says that the worker's call is in flight
abbrev pub is_in_flight : {V : Type 0} → Outcome V → Bool
is_in_flight Running = true
is_in_flight (Asks found) = true
is_in_flight (Found place key value) = true
is_in_flight (Registered n) = false
is_in_flight (Done done) = false
is_in_flight (Refused refusal) = false

-- whether the call takes its next step with nothing from outside: it has not ended, and wants no answer
abbrev pub goes_unasked : {V : Type 0} → Outcome V → Bool
goes_unasked Running = true
goes_unasked (Asks found) = false
goes_unasked (Found place key value) = true
goes_unasked (Registered n) = false
goes_unasked (Done done) = false
goes_unasked (Refused refusal) = false
