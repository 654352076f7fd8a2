-- What always holds of the machine: tree, calls and collector are safe, and each worker has one call in flight at most.
use Rattle.std.specs.Prelude.{◌≡◌, ◌≤◌, ℕ, Bool, true, false, List, Option, None, Some, is_some, if◌then◌else◌, length, slice_get, slice_set}
use Rattle.crossbeam_epoch.specs.declared.world.participant.Participant.{Participant}
use Rattle.crossbeam_epoch.specs.declared.world.participant.Phase.TheVariants as collector_phase
use Rattle.crossbeam_epoch.specs.declared.world.report.Op.TheVariants.{Secure}
use Rattle.crossbeam_epoch.specs.declared.world.report.Event.TheVariants.{Begin, Go}
use Rattle.crossbeam_epoch.specs.declared.world.report.Report.{Report}
use Rattle.crossbeam_epoch.specs.declared.world.report.Outcome.{Outcome}
use Rattle.crossbeam_epoch.specs.declared.world.report.Outcome.TheVariants.{Running, Done, Refused}
use Rattle.crossbeam_epoch.specs.world.Machine.{State, place}
use Rattle.crossbeam_epoch.specs.world.Progress.{IsOn}
use Rattle.congee.specs.declared.protocol.machine.Machine.{Machine}
use Rattle.congee.specs.declared.protocol.op.Op.{Op}
use Rattle.congee.specs.declared.protocol.op.Op.TheVariants as point
use Rattle.congee.specs.declared.protocol.phase.Phase.TheVariants.{New, Ended}
use Rattle.congee.specs.declared.protocol.machine.Move.{Move}
use Rattle.congee.specs.declared.protocol.run.Step.{Step}
use Rattle.congee.specs.protocol.Play.{begun, parts}
use Rattle.congee.specs.protocol.State.{ended, is_done, is_over}
use Rattle.joint.specs.declared.engine.in_flight.InFlight.{InFlight}
use Rattle.joint.specs.declared.engine.in_flight.InFlight.TheVariants.{Idle, Collecting, Reserving, Securing, Walking}
use Rattle.joint.specs.declared.id.Id.{Id}
use Rattle.joint.specs.engine.Filed.{IsFiled}
use Rattle.joint.specs.nodes.Nodes.{Nodes}
use Rattle.joint.specs.engine.Safety.{IsSafe, Collected, Walked}
use Rattle.joint.specs.engine.Sound.{IsUnderWay, IsSecured}
use Rattle.joint.specs.Names.{root}

-- whether a call may hand nodes over
abbrev pub writes : {V : Type 0} → Op V → Bool
writes (point.Get k) = false
writes (point.Range start end size) = false
writes (point.RangeInclusive start last size) = false
writes _ = true

-- what a worker's call in flight says of its place in the collector and of its call on the tree
abbrev pub IsAt : {V J : Type 0} → InFlight V → Participant J → Machine Id V → Type 0
IsAt Idle p m = (p.phase ≡ collector_phase.Idle) × (m.phase ≡ Ended)
IsAt (Collecting op) p m = IsOn op p × (m.phase ≡ Ended)
IsAt (Reserving op) p m = (p.registered ≡ true) × (is_some p.word ≡ true) × (p.phase ≡ collector_phase.Idle) × (m.phase ≡ Ended) × (writes op ≡ true)
IsAt (Securing op) p m = IsOn (Secure 2) p × (is_some p.word ≡ true) × (m.phase ≡ Ended) × (writes op ≡ true)
IsAt Walking p m = IsUnderWay m.phase × (is_done m.phase ≡ false)

-- tree, calls and collector are safe, and each worker's call is at one with its place and its machine
pub record IsIntact {V : Type 0} (same : V → V → Bool) (always : Bool) (s : Nodes V) (ms : List (Machine Id V)) (calls : List (InFlight V)) : Type 0 where
  pub safe : IsSafe same always s ms
  pub machines : length ms ≡ length calls
  pub table : length s.collector.table ≡ length calls
  pub few : length calls ≤ 256
  pub filed : IsFiled s
  pub each : (i : ℕ) (k : InFlight V) (m : Machine Id V) → slice_get calls i ≡ Some k → slice_get ms i ≡ Some m → IsAt k (place s.collector i) m

-- the call in flight after a step of the collector that was reported so: the one that runs on, or none
abbrev pub call_after : {V : Type 0} → Outcome → InFlight V → InFlight V
call_after Running k = k
call_after Done k = Idle
call_after (Refused f) k = Idle

-- a worker's call on the tree before its first
abbrev pub resting : {V : Type 0} → Machine Id V
resting = ended root

-- a scan that is done leaves its worker's place
abbrev pub rested : {V : Type 0} → Machine Id V → Machine Id V
rested m = if is_done m.phase then resting else m

-- the machines once a scan that is done has left its worker's place
abbrev pub cleared_at : {V : Type 0} → Option (Machine Id V) → List (Machine Id V) → ℕ → List (Machine Id V)
cleared_at None ms who = ms
cleared_at (Some m) ms who = if is_done m.phase then slice_set ms who resting else ms

-- the same of the worker of this number
abbrev pub cleared : {V : Type 0} → List (Machine Id V) → ℕ → List (Machine Id V)
cleared ms who = cleared_at (slice_get ms who) ms who

-- a step of a worker's call on the tree, after which a scan that is done leaves its place
pub record WalkedOn {V : Type 0} (same : V → V → Bool) (always : Bool) (s : Nodes V) (ms : List (Machine Id V)) (step : Step Id V) (d : Move V) (s' : Nodes V) (ms' : List (Machine Id V)) : Type 0 where
  pub between : List (Machine Id V)
  pub walked : Walked same always s ms step d s' between
  pub machines : ms' ≡ cleared between step.who

-- the worker may begin the call on the tree: it is pinned, and a call that may hand a node over has a place for it
pub record MayStart {T J V : Type 0} (s : State T J) (who : ℕ) (op : Op V) : Type 0 where
  pub registered : (place s who).registered ≡ true
  pub pinned : is_some (place s who).word ≡ true
  pub room : IsSecured {C = Id} (parts op).1 New (length (place s who).bag)

-- a writing call has taken no step
abbrev pub is_reserving : {V : Type 0} → Option (InFlight V) → Bool
is_reserving (Some (Reserving op)) = true
is_reserving _ = false

-- the call in flight once it begins to make its places free
abbrev pub securing_of : {V : Type 0} → Option (InFlight V) → InFlight V
securing_of (Some (Reserving op)) = Securing op
securing_of _ = Idle

-- a writing call begins to make its places free, which runs on
pub record BeginsSecuring {V : Type 0} (same : V → V → Bool) (always : Bool) (s : Nodes V) (ms : List (Machine Id V)) (calls : List (InFlight V)) (who : ℕ) (s' : Nodes V) (ms' : List (Machine Id V)) (calls' : List (InFlight V)) : Type 0 where
  pub intact : IsIntact same always s' ms' calls'
  pub collector_report : Report
  pub collected : Collected same always s ms who (Begin (Secure 2)) collector_report s'
  pub running : collector_report.outcome ≡ Running
  pub call : calls' ≡ slice_set calls who (securing_of (slice_get calls who))
  pub machine : ms' ≡ ms

-- a writing call makes its places free
abbrev pub IsSecuring : {V : Type 0} → Option (InFlight V) → Type 0
IsSecuring (Some (Securing op)) = Unit {0}
IsSecuring _ = ⊥

-- the call in flight after a step of that
abbrev pub secured_call : {V : Type 0} → Outcome → Option (InFlight V) → InFlight V
secured_call Running (Some k) = k
secured_call Done (Some (Securing op)) = Walking
secured_call o k = Idle

-- and the calls on the tree
abbrev pub secured_machines : {V : Type 0} → Outcome → Option (InFlight V) → List (Machine Id V) → ℕ → List (Machine Id V)
secured_machines Done (Some (Securing op)) ms who = slice_set ms who (begun root op)
secured_machines o k ms who = ms

-- the call on the tree has ended
abbrev pub over_at : {V : Type 0} → Option (Machine Id V) → Bool
over_at None = false
over_at (Some m) = is_over m.phase

-- a step of a writing call that makes its places free, after the last of which the call on the tree begins
pub record Secured {V : Type 0} (same : V → V → Bool) (always : Bool) (s : Nodes V) (ms : List (Machine Id V)) (calls : List (InFlight V)) (who : ℕ) (r : Report) (s' : Nodes V) (ms' : List (Machine Id V)) (calls' : List (InFlight V)) : Type 0 where
  pub intact : IsIntact same always s' ms' calls'
  pub collected : Collected same always s ms who Go r s'
  pub call : calls' ≡ slice_set calls who (secured_call r.outcome (slice_get calls who))
  pub machine : ms' ≡ secured_machines r.outcome (slice_get calls who) ms who
