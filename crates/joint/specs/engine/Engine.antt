-- The machine beside what it writes down, and one step of it: what a worker asks, what it is told, and the state after it.
use Rattle.std.specs.Prelude.{◌≡◌, ℕ, ◌-◌, ◌<◌, ◌==◌, ltb, leb, ◌⊎◌, Bool, true, false, List, Option, None, Some, is_none, cond, if◌then◌else◌, length, slice_get, slice_set}
use Rattle.std.specs.List.{Contains}
use Rattle.crossbeam_epoch.specs.declared.fault.Fault.{Fault}
use Rattle.crossbeam_epoch.specs.declared.fault.Fault.TheVariants as fault
use Rattle.crossbeam_epoch.specs.declared.names.Name.{Name}
use Rattle.crossbeam_epoch.specs.declared.world.participant.Participant.{Participant}
use Rattle.crossbeam_epoch.specs.declared.world.report.Event.{Event as CollectorEvent}
use Rattle.crossbeam_epoch.specs.declared.world.report.Event.TheVariants as collector_event
use Rattle.crossbeam_epoch.specs.declared.world.report.Outcome.{Outcome as CollectorOutcome}
use Rattle.crossbeam_epoch.specs.declared.world.report.Outcome.TheVariants as collector_outcome
use Rattle.crossbeam_epoch.specs.declared.world.report.Report.{Report as Collection}
use Rattle.crossbeam_epoch.specs.world.Machine.{place, registered}
use Rattle.crossbeam_epoch.specs.world.Steps.{begin_fault, busy_fault, when}
use Rattle.congee.specs.declared.protocol.machine.Machine.{Machine}
use Rattle.congee.specs.declared.protocol.machine.Move.{Move}
use Rattle.congee.specs.declared.protocol.machine.Noise.{Noise}
use Rattle.congee.specs.declared.protocol.op.Op.{Op as Point}
use Rattle.congee.specs.declared.protocol.op.Op.TheVariants as point
use Rattle.congee.specs.Heap.{Stands}
use Rattle.congee.specs.protocol.Holdings.{MadeBy}
use Rattle.congee.specs.protocol.Names.{names}
use Rattle.congee.specs.protocol.Play.{begun}
use Rattle.congee.specs.protocol.Opening.{RootAlone}
use Rattle.joint.specs.declared.engine.in_flight.InFlight.{InFlight}
use Rattle.joint.specs.declared.engine.in_flight.InFlight.TheVariants.{Idle, Collecting, Reserving, Securing, Walking}
use Rattle.joint.specs.declared.id.Id.{Id}
use Rattle.joint.specs.declared.refusal.Refusal.TheVariants.{TableFull}
use Rattle.joint.specs.declared.steps.Event.{Event}
use Rattle.joint.specs.declared.steps.Event.TheVariants.{Register, Begin, Go}
use Rattle.joint.specs.declared.steps.Kind.{Kind}
use Rattle.joint.specs.declared.steps.Kind.TheVariants.{Tree, Collection as OfCollector}
use Rattle.joint.specs.declared.steps.Outcome.{Outcome}
use Rattle.joint.specs.declared.steps.Outcome.TheVariants.{Running, Registered, Done, Refused}
use Rattle.joint.specs.declared.steps.Done.TheVariants.{Scanned}
use Rattle.joint.specs.declared.steps.Report.{Report}
use Rattle.joint.specs.declared.steps.Step.{Step}
use Rattle.joint.specs.declared.steps.Survey.{Survey}
use Rattle.joint.specs.declared.steps.Survey.TheVariants as survey
use Rattle.joint.specs.declared.steps.Target.{Target}
use Rattle.joint.specs.declared.steps.Target.TheVariants as target
use Rattle.joint.specs.nodes.Nodes.{Nodes, nodes, total, with_collector, IsCharged}
use Rattle.joint.specs.engine.Intact.{IsIntact, BeginsSecuring, Secured, WalkedOn, call_after, over_at}
use Rattle.joint.specs.Names.{root}
use Rattle.joint.specs.engine.Log.{Log, no_log}
use Rattle.joint.specs.engine.Safety.{Collected}
use Rattle.joint.specs.Refusals.{of_fault}
use Rattle.joint.specs.Reports.{is_in_flight, target, told, collected}
use Rattle.joint.specs.engine.Surveys.{TellsOf}
use Rattle.joint.specs.nodes.View.{id_number}

-- the nodes in the collector's cells, and for each worker its call on the tree and its call in flight
pub record World (V : Type 0) : Type 0 where
  pub forest : Nodes V
  pub machines : List (Machine Id V)
  pub calls : List (InFlight V)
  -- what is written down of the calls
  pub log : Log V

-- the machine beside what it writes down
abbrev pub without_log : {V : Type 0} → Nodes V → List (Machine Id V) → List (InFlight V) → World V
without_log s ms ks = record { forest = s; machines = ms; calls = ks; log = no_log }

-- the same of a machine that has written something down
abbrev pub engine_of : {V : Type 0} → World V → World V
engine_of s = without_log s.forest s.machines s.calls

-- a worker's place in the collector
abbrev pub place_of : {V : Type 0} → World V → ℕ → Participant (Unit {0})
place_of s who = place s.forest.collector who

-- whether the worker has a call in flight
abbrev pub is_busy : {V : Type 0} → Option (InFlight V) → Bool
is_busy None = false
is_busy (Some Idle) = false
is_busy (Some (Collecting op)) = true
is_busy (Some (Reserving op)) = true
is_busy (Some (Securing op)) = true
is_busy (Some Walking) = true

-- why a worker without a call in flight can't begin this one
abbrev pub unready : {V J : Type 0} → Target V → Participant J → Option Fault
unready (target.Collector op) p = begin_fault op p
unready (target.Tree op) p = when (is_none p.word) fault.Unpinned
unready (target.Survey survey.IsEmpty) p = when (is_none p.word) fault.Unpinned
unready (target.Survey survey.Keys) p = None
unready (target.Survey survey.Stats) p = None

-- why one with a call in flight can't
abbrev pub interruption : {V : Type 0} → Target V → Fault
interruption (target.Collector op) = busy_fault op
interruption (target.Tree op) = fault.Busy
interruption (target.Survey k) = fault.Busy

-- why a begin is refused before anything is done, the first cause of several
abbrev pub begin_misuse : {V J : Type 0} → Target V → Option (InFlight V) → Participant J → Option Fault
begin_misuse t call p = if p.registered then (if is_busy call then Some (interruption t) else unready t p) else Some fault.Unknown

-- and why a step is
abbrev pub misuse_at : {V J : Type 0} → Event V → Option (InFlight V) → Participant J → Option Fault
misuse_at Register call p = None
misuse_at (Begin op) call p = begin_misuse (target op) call p
misuse_at (Go noise) call p = if p.registered then (if is_busy call then None else Some fault.Idle) else Some fault.Unknown

-- the same of a step in this state
abbrev pub misuse : {V : Type 0} → World V → ℕ → Event V → Option Fault
misuse s who event = misuse_at event (slice_get s.calls who) (place_of s who)

-- a step that begins a call on the tree is one of the tree
abbrev pub kind_of : {V : Type 0} → Target V → Kind
kind_of (target.Collector op) = OfCollector
kind_of (target.Tree op) = Tree
kind_of (target.Survey k) = Tree

-- and one that finds no call in flight is none
abbrev pub kind_at : {V : Type 0} → Event V → Kind
kind_at Register = OfCollector
kind_at (Begin op) = kind_of (target op)
kind_at (Go noise) = OfCollector

-- the report of a step that decides, skips and destroys nothing
abbrev pub quiet : {V : Type 0} → Kind → Outcome V → Report V
quiet kind outcome = record { kind = kind; decided = false; kept = false; skipped = false; destroyed = 0; outcome = outcome }

-- how many an option has
abbrev pub one_if : {A : Type 0} → Option A → ℕ
one_if None = 0
one_if (Some n) = 1

-- the nodes that a step of the collector destroyed, by the job that it called
abbrev pub destroyed_count : Option (ℕ × Option Name) → ℕ
destroyed_count None = 0
destroyed_count (Some job) = one_if job.1

-- the report of a step of the collector, from what the collector tells
abbrev pub collection : {V : Type 0} → Collection → Outcome V → Report V
collection c outcome = record { kind = OfCollector; decided = false; kept = false; skipped = false; destroyed = destroyed_count c.called; outcome = outcome }

-- the nodes that stand
abbrev pub standing : {V : Type 0} → Nodes V → ℕ
standing s = total (λ slot. 1) s.collector.store

-- the report of a step of a call on the tree; no step both makes and destroys nodes
abbrev pub walk : {V : Type 0} → Nodes V → Move V → Nodes V → Report V
walk s d s' = record { kind = Tree; decided = d.decided; kept = false; skipped = d.skipped; destroyed = standing s - standing s'; outcome = told d.outcome }

-- a worker takes the lowest free place, where there is one
pub record Registers {V : Type 0} (s : World V) (n : ℕ) (r : Report V) (s' : World V) : Type 0 where
  pub inside : n < length s.forest.collector.table
  pub free : (place_of s n).registered ≡ false
  pub lowest : (q : ℕ) → q < n → (place_of s q).registered ≡ true
  pub report : r ≡ quiet OfCollector (Registered n)
  pub state : s' ≡ record s { forest = with_collector s.forest (registered s.forest.collector n) }

-- and is refused where there is none
pub record FindsNoPlace {V : Type 0} (s : World V) (r : Report V) (s' : World V) : Type 0 where
  pub full : (q : ℕ) → q < length s.forest.collector.table → (place_of s q).registered ≡ true
  pub report : r ≡ quiet OfCollector (Refused TableFull)
  pub state : s' ≡ s

-- a call on the collector begins, or goes on, until it ends
pub record Collects {V : Type 0} (same : V → V → Bool) (always : Bool) (s : World V) (who : ℕ) (event : CollectorEvent) (call : InFlight V) (r : Report V) (s' : World V) : Type 0 where
  pub collector_report : Collection
  pub step : Collected same always s.forest s.machines who event collector_report s'.forest
  pub machines : s'.machines ≡ s.machines
  pub calls : s'.calls ≡ slice_set s.calls who (call_after collector_report.outcome call)
  pub report : r ≡ collection collector_report (collected collector_report.outcome)

-- a reading call begins on the tree
pub record Enters {V : Type 0} (s : World V) (who : ℕ) (op : Point V) (r : Report V) (s' : World V) : Type 0 where
  pub state : s' ≡ record s { machines = slice_set s.machines who (begun root op); calls = slice_set s.calls who Walking }
  pub report : r ≡ quiet Tree Running

-- whether a call is a scan that can find nothing: there is no key in its range, or no place for a pair
abbrev pub finds_none : {V : Type 0} → Point V → Bool
finds_none (point.Range start end size) = cond (ltb start end) (size == 0) true
finds_none (point.RangeInclusive start last size) = cond (leb start last) (size == 0) true
finds_none _ = false

-- it ends as it begins
pub record ScansNothing {V : Type 0} (s : World V) (r : Report V) (s' : World V) : Type 0 where
  pub state : s' ≡ s
  pub report : r ≡ quiet Tree (Done (Scanned 0))

-- a call is in flight on the tree, or is a scan that ends as it begins
abbrev pub EntersUnless : {V : Type 0} → Bool → World V → ℕ → Point V → Report V → World V → Type 0
EntersUnless true s who op r s' = ScansNothing s r s'
EntersUnless false s who op r s' = Enters s who op r s'

-- a writing call begins
pub record Reserves {V : Type 0} (s : World V) (who : ℕ) (op : Point V) (r : Report V) (s' : World V) : Type 0 where
  pub state : s' ≡ record s { calls = slice_set s.calls who (Reserving op) }
  pub report : r ≡ quiet Tree Running

-- it makes a place free for each node that it may hand over; after the last step of that it is in flight on the tree
abbrev pub reserving : {V : Type 0} → CollectorOutcome → Outcome V
reserving collector_outcome.Done = Running
reserving o = collected o

-- a further step of that
pub record GoesOnReserving {V : Type 0} (same : V → V → Bool) (always : Bool) (s : World V) (who : ℕ) (r : Report V) (s' : World V) : Type 0 where
  pub collector_report : Collection
  pub step : Secured same always s.forest s.machines s.calls who collector_report s'.forest s'.machines s'.calls
  pub report : r ≡ collection collector_report (reserving collector_report.outcome)

-- its first step begins to make the places free, and goes on with that at once
pub record SecuresFirst {V : Type 0} (same : V → V → Bool) (always : Bool) (s : World V) (who : ℕ) (r : Report V) (s' : World V) : Type 0 where
  pub between : World V
  pub begins : BeginsSecuring same always s.forest s.machines s.calls who between.forest between.machines between.calls
  pub goes : GoesOnReserving same always between who r s'

-- a step of a call on the tree, which ends with its last one
pub record Walks {V : Type 0} (same : V → V → Bool) (always : Bool) (s : World V) (who : ℕ) (noise : Noise Id V) (r : Report V) (s' : World V) : Type 0 where
  pub move : Move V
  pub step : WalkedOn same always s.forest s.machines (record { who = who; noise = noise }) move s'.forest s'.machines
  pub calls : s'.calls ≡ slice_set s.calls who (if over_at (slice_get s'.machines who) then Idle else Walking)
  pub report : r ≡ walk s.forest move s'.forest

-- a call on the tree begins: a look-up or a scan there at once, and a writing call with places to make free first
abbrev pub BeginsOnTree : {V : Type 0} → (V → V → Bool) → Bool → World V → ℕ → Point V → Report V → World V → Type 0
BeginsOnTree same always s who (point.Get k) r s' = Enters s who (point.Get k) r s'
BeginsOnTree {V} same always s who (point.Range start end size) r s' = EntersUnless (finds_none {V = V} (point.Range start end size)) s who (point.Range start end size) r s'
BeginsOnTree {V} same always s who (point.RangeInclusive start last size) r s' = EntersUnless (finds_none {V = V} (point.RangeInclusive start last size)) s who (point.RangeInclusive start last size) r s'
BeginsOnTree same always s who op r s' = Reserves s who op r s'

-- a call of one step tells of the tree as it stands
pub record Surveys {V : Type 0} (s : World V) (k : Survey) (r : Report V) (s' : World V) : Type 0 where
  pub state : s' ≡ s
  pub outcome : Outcome V
  pub report : r ≡ quiet Tree outcome
  pub tells : TellsOf (nodes s.forest) k outcome

-- a call begins, by the layer that it is of
abbrev pub BeginsAt : {V : Type 0} → (V → V → Bool) → Bool → World V → ℕ → Target V → Report V → World V → Type 0
BeginsAt same always s who (target.Collector op) r s' = Collects same always s who (collector_event.Begin op) (Collecting op) r s'
BeginsAt same always s who (target.Tree op) r s' = BeginsOnTree same always s who op r s'
BeginsAt same always s who (target.Survey k) r s' = Surveys s k r s'

-- a call in flight goes on, by what it is about
abbrev pub GoesAt : {V : Type 0} → (V → V → Bool) → Bool → World V → ℕ → Option (InFlight V) → Noise Id V → Report V → World V → Type 0
GoesAt same always s who None noise r s' = ⊥
GoesAt same always s who (Some Idle) noise r s' = ⊥
GoesAt same always s who (Some (Collecting op)) noise r s' = Collects same always s who collector_event.Go (Collecting op) r s'
GoesAt same always s who (Some (Reserving op)) noise r s' = SecuresFirst same always s who r s'
GoesAt same always s who (Some (Securing op)) noise r s' = GoesOnReserving same always s who r s'
GoesAt same always s who (Some Walking) noise r s' = Walks same always s who noise r s'

-- what a step does that isn't misused
abbrev pub Proceeds : {V : Type 0} → (V → V → Bool) → Bool → World V → ℕ → Event V → Report V → World V → Type 0
Proceeds {V} same always s who Register r s' = ((n : ℕ) × Registers s n r s') ⊎ FindsNoPlace s r s'
Proceeds same always s who (Begin op) r s' = BeginsAt same always s who (target op) r s'
Proceeds same always s who (Go noise) r s' = GoesAt same always s who (slice_get s.calls who) noise r s'

-- one that is is refused for that, and changes nothing
abbrev pub Does : {V : Type 0} → (V → V → Bool) → Bool → World V → ℕ → Event V → Option Fault → Report V → World V → Type 0
Does same always s who event (Some f) r s' = (r ≡ quiet (kind_at event) (Refused (of_fault f))) × (s' ≡ s)
Does same always s who event None r s' = Proceeds same always s who event r s'

-- what always holds of it
abbrev pub EngineHolds : {V : Type 0} → (V → V → Bool) → Bool → World V → Type 0
EngineHolds same always s = IsIntact same always s.forest s.machines s.calls × IsCharged s.forest

-- a registration is no step of a call
abbrev pub IsOfCall : {V : Type 0} → Event V → Type 0
IsOfCall Register = ⊥
IsOfCall _ = Unit {0}

-- one step
pub record IsEngineStep {V : Type 0} (same : V → V → Bool) (always : Bool) (s : World V) (step : Step V) (r : Report V) (s' : World V) : Type 0 where
  pub does : Does same always s step.worker step.event (misuse s step.worker step.event) r s'
  -- after a step of its call that isn't misused a worker has a call in flight exactly where the report says so
  pub flight : IsOfCall step.event → misuse s step.worker step.event ≡ None → is_busy (slice_get s'.calls step.worker) ≡ is_in_flight r.outcome
  pub holds : EngineHolds same always s'

-- the node was handed over, and no call has its name
pub record IsUnused {V : Type 0} (s : World V) (n : ℕ) : Type 0 where
  pub waits : (nodes s.forest n).retired ≡ true
  pub unnamed : (i : ℕ) (m : Machine Id V) → slice_get s.machines i ≡ Some m → Contains (names id_number m.phase) n → ⊥

-- the worker's call has made the node, and neither hung it nor given it back
abbrev pub IsHeldBy : {V : Type 0} → World V → ℕ → ℕ → Type 0
IsHeldBy {V} s who n = (m : Machine Id V) × (slice_get s.machines who ≡ Some m) × MadeBy id_number m.phase n

-- a worker's step destroys nodes that wait and that no call names, and nodes that its own call had made
abbrev pub SparesUsed : {V : Type 0} → World V → ℕ → World V → Type 0
SparesUsed s who s' = (n : ℕ) → Stands (nodes s.forest n) → Stands (nodes s'.forest n) ⊎ (IsUnused s n ⊎ IsHeldBy s who n)

-- a root alone, and no call in flight
pub record IsFresh {V : Type 0} (s : World V) : Type 0 where
  pub alone : RootAlone (nodes s.forest)
  pub idle : (i : ℕ) (k : InFlight V) → slice_get s.calls i ≡ Some k → k ≡ Idle
