-- What a user of the steps has in hand, and the history that is read off it alone.
use Rattle.std.specs.Prelude.{◌≡◌, ℕ, ◌+◌, ◌-◌, ◌==◌, ◌≤◌, nat_lt, ◌&&◌, Bool, true, false, List, [], ◌∷◌, Option, Some, None, is_some, if◌then◌else◌}
use Rattle.crossbeam_epoch.specs.declared.fault.Fault.TheVariants.{Memory}
use Rattle.crossbeam_epoch.specs.declared.names.Name.{Name}
use Rattle.crossbeam_epoch.specs.declared.world.participant.Participant.{Participant}
use Rattle.crossbeam_epoch.specs.declared.world.participant.Phase.{Phase}
use Rattle.crossbeam_epoch.specs.declared.world.participant.Phase.TheVariants as P
use Rattle.crossbeam_epoch.specs.declared.world.report.Op.{Op}
use Rattle.crossbeam_epoch.specs.declared.world.report.Op.TheVariants.{Pin, Unpin, Repin}
use Rattle.crossbeam_epoch.specs.declared.world.report.Event.{Event}
use Rattle.crossbeam_epoch.specs.declared.world.report.Event.TheVariants.{Begin, Go}
use Rattle.crossbeam_epoch.specs.declared.world.report.Outcome.{Outcome}
use Rattle.crossbeam_epoch.specs.declared.world.report.Outcome.TheVariants.{Running, Done, Refused}
use Rattle.crossbeam_epoch.specs.declared.world.report.Report.{Report}
use Rattle.crossbeam_epoch.specs.declared.world.report.Step.{Step}
use Rattle.crossbeam_epoch.specs.world.History.{Mark, Pinned, Repinned, Unpinned, Deferred, Called}
use Rattle.crossbeam_epoch.specs.world.Machine.{State, place}
use Rattle.crossbeam_epoch.specs.world.Steps.{unless_refused}

-- a step and its report, or the ticket of a deferral and the name of the cell that it is to destroy
pub data LogLine : Type 0 where
  Stepped : (step : Step) → (report : Report) → LogLine
  Accepted : (ticket : ℕ) → (name : Option Name) → LogLine

-- the log, the newest first, after steps that were reported so
abbrev pub log_after : List Step → List Report → List LogLine → List LogLine
log_after [] reports log = log
log_after (step ∷ steps) [] log = log
log_after (step ∷ steps) (r ∷ reports) log = log_after steps reports (Stepped step r ∷ log)

-- a call in flight, and how many steps it took since its begin
pub record Flight : Type 0 where
  pub op : Op
  pub taken : ℕ

-- it took one step more
abbrev pub one_more : Option Flight → Option Flight
one_more None = None
one_more (Some f) = Some (record f { taken = f.taken + 1 })

-- a call that finds no memory is over; what is refused otherwise changes nothing
abbrev pub flight_after : Event → Outcome → Option Flight → Option Flight
flight_after (Begin op) Running f = Some (record { op = op; taken = 0 })
flight_after (Begin op) Done f = None
flight_after (Begin op) (Refused fault) f = f
flight_after Go Running f = one_more f
flight_after Go Done f = None
flight_after Go (Refused Memory) f = None
flight_after Go (Refused _) f = f

-- the call of q that is in flight
abbrev pub flight : List LogLine → ℕ → Option Flight
flight [] q = None
flight (Stepped step r ∷ log) q = if step.who == q then flight_after step.event r.outcome (flight log q) else flight log q
flight (Accepted ticket name ∷ log) q = flight log q

-- whether the call is a pin
abbrev pub is_pin : Op → Bool
is_pin Pin = true
is_pin _ = false

-- whether it is a repin
abbrev pub is_repin : Op → Bool
is_repin Repin = true
is_repin _ = false

-- a pin publishes by its second step
abbrev pub pins_next : Option Flight → Bool
pins_next None = false
pins_next (Some f) = is_pin f.op && (f.taken == 1)

-- a repin publishes by its second step
abbrev pub repins_next : Option Flight → Bool
repins_next None = false
repins_next (Some f) = is_repin f.op && (f.taken == 1)

-- a first-level pin takes its guard where it publishes, any other pin at once
abbrev pub guards_after : Event → Outcome → Option Flight → ℕ → ℕ
guards_after (Begin Pin) Done f n = n + 1
guards_after (Begin Unpin) Done f n = n - 1
guards_after (Begin _) _ f n = n
guards_after Go (Refused fault) f n = n
guards_after Go _ f n = if pins_next f then n + 1 else n

-- how many guards of q are out
abbrev pub guards : List LogLine → ℕ → ℕ
guards [] q = 0
guards (Stepped step r ∷ log) q = if step.who == q then guards_after step.event r.outcome (flight log q) (guards log q) else guards log q
guards (Accepted ticket name ∷ log) q = guards log q

-- no report tells the epoch
abbrev pub untold : ℕ
untold = 0

-- what happened, with the stretch that a step begins where its call publishes
abbrev pub publication : ℕ → Option Flight → List Mark → List Mark
publication who f h = if pins_next f then Pinned who untold ∷ h else if repins_next f then Repinned who untold ∷ h else h

-- what an event marks that wasn't refused: the last guard goes, a job is called, a pin or a repin publishes
abbrev pub event_marks : ℕ → Event → Option (ℕ × Option Name) → Option Flight → ℕ → List Mark → List Mark
event_marks who (Begin Unpin) called f n h = if n == 1 then Unpinned who ∷ h else h
event_marks who (Begin _) called f n h = h
event_marks who Go (Some c) f n h = Called c.0 c.1 ∷ h
event_marks who Go None f n h = publication who f h

-- the history that the log tells
abbrev pub history_of : List LogLine → List Mark
history_of [] = []
history_of (Stepped step r ∷ log) = unless_refused r.outcome (event_marks step.who step.event r.called (flight log step.who) (guards log step.who) (history_of log)) (history_of log)
history_of (Accepted ticket name ∷ log) = Deferred ticket name ∷ history_of log

-- a history without its epochs
abbrev pub undated : List Mark → List Mark
undated [] = []
undated (Pinned who epoch ∷ h) = Pinned who untold ∷ undated h
undated (Repinned who epoch ∷ h) = Repinned who untold ∷ undated h
undated (Unpinned who ∷ h) = Unpinned who ∷ undated h
undated (Deferred ticket name ∷ h) = Deferred ticket name ∷ undated h
undated (Called ticket name ∷ h) = Called ticket name ∷ undated h

-- a call that publishes no more
abbrev pub IsPastBy : Op → ℕ → Type 0
IsPastBy Pin taken = 2 ≤ taken
IsPastBy Repin taken = ⊥
IsPastBy _ taken = Unit {0}

-- the same of a call in flight
abbrev pub IsPast : Option Flight → Type 0
IsPast None = ⊥
IsPast (Some f) = IsPastBy f.op f.taken

-- a phase is that of the call in flight
abbrev pub IsFlight : Phase → Option ℕ → Option Flight → Type 0
IsFlight P.Idle word f = f ≡ None
IsFlight P.Look word f = (f ≡ Some (record { op = Pin; taken = 0 })) × (word ≡ None)
IsFlight (P.Publish seen) word f = (f ≡ Some (record { op = Pin; taken = 1 })) × (word ≡ None)
IsFlight P.RepinLook word f = (f ≡ Some (record { op = Repin; taken = 0 })) × (is_some word ≡ true)
IsFlight (P.RepinPublish seen) word f = (f ≡ Some (record { op = Repin; taken = 1 })) × (is_some word ≡ true)
IsFlight P.ReleaseSeal word f = IsPast f × (word ≡ None)
IsFlight (P.ReleaseQueue seal) word f = IsPast f × (word ≡ None)
IsFlight _ word f = IsPast f

-- a place is as the log tells: its guards, whether it is pinned, its call in flight
pub record AgreesAt {J : Type 0} (f : Option Flight) (n : ℕ) (p : Participant J) : Type 0 where
  pub count : p.guards ≡ n
  pub pinned : is_some p.word ≡ nat_lt 0 n
  pub phase : IsFlight p.phase p.word f

-- the log shows this history, its epochs aside, and this state
pub record Shows {T J : Type 0} (log : List LogLine) (h : List Mark) (s : State T J) : Type 0 where
  pub history : undated h ≡ history_of log
  pub places : (q : ℕ) → AgreesAt (flight log q) (guards log q) (place s q)
