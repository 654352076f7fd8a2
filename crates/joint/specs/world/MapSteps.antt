-- One step, on the map: what it makes of the pairs that stand, and of the calls in flight.
use Rattle.std.specs.Prelude.{Option, ◌≡◌, false, None, ℕ, [], ◌∷◌, Some, Bool, ◌⊎◌, true, List}
use Rattle.judge.specs.declared.journal.Entry.{Entry}
use Rattle.judge.specs.Answer.{Pairs}
use Rattle.congee.specs.declared.protocol.op.Op.{Op as Point}
use Rattle.congee.specs.protocol.Play.{Over, begun, flight, range_of, Flight, Question, Undecided, Heeds, Concludes, ScanTells, Pending, Decided, Unbegun, Scanning, value_answered, resolved}
use Rattle.congee.specs.protocol.Scans.{IsScan}
use Rattle.congee.specs.declared.protocol.machine.Outcome.{Outcome as Moved}
use Rattle.congee.specs.declared.protocol.phase.Kind.{Kind}
use Rattle.std.specs.FinMap.{get}
use Rattle.judge.specs.Journal.{Answers}
use Rattle.congee.specs.protocol.Protocol.{IsCall}
use Rattle.judge.specs.declared.journal.Reply.{Reply}
use Rattle.judge.specs.declared.journal.Call.{Call as Entered}
use Rattle.judge.specs.declared.journal.Call.TheVariants as entered
use Rattle.joint.specs.declared.steps.Report.{Report}
use Rattle.joint.specs.declared.steps.Step.{Step}
use Rattle.joint.specs.engine.Flying.{Flights, with_flight}
use Rattle.joint.specs.declared.steps.Outcome.TheVariants.{Running, Done, Refused}
use Rattle.joint.specs.Names.{root}
use Rattle.joint.specs.declared.steps.Done.{Done as Answer}
use Rattle.joint.specs.declared.steps.Done.TheVariants.{Scanned}
use Rattle.joint.specs.declared.steps.Outcome.{Outcome}
use Rattle.joint.specs.declared.steps.Survey.{Survey}
use Rattle.joint.specs.engine.Surveys.{MapTells}
use Rattle.joint.specs.declared.steps.Target.{Target}
use Rattle.joint.specs.declared.steps.Target.TheVariants as target
use Rattle.joint.specs.Reports.{target, told}
use Rattle.joint.specs.declared.refusal.Refusal.TheVariants.{JournalFull}
use Rattle.joint.specs.declared.steps.Event.{Event}
use Rattle.joint.specs.declared.steps.Event.TheVariants.{Register, Begin, Go}

-- a step as the map sees it: what was asked and told, the entry of the call that took effect, and the pairs after it
pub record Line (V : Type 0) : Type 0 where
  pub step : Step V
  pub report : Report V
  pub entry : Option (Entry V)
  pub pairs : Pairs V

-- a step in which no call on the tree begins, goes on or ends
pub record Stays {V : Type 0} (fs : Flights V) (m : Pairs V) (l : Line V) (fs' : Flights V) : Type 0 where
  pub undecided : l.report.decided ≡ false
  pub no_entry : l.entry ≡ None
  pub same_pairs : l.pairs ≡ m
  pub same_flights : fs' ≡ fs

-- a call on the tree begins, of a worker that has none in flight
pub record BeginsFlight {V : Type 0} (fs : Flights V) (m : Pairs V) (op : Point V) (l : Line V) (fs' : Flights V) : Type 0 where
  pub free : fs l.step.worker ≡ Over
  pub accepted : l.report.outcome ≡ Running
  pub undecided : l.report.decided ≡ false
  pub no_entry : l.entry ≡ None
  pub same_pairs : l.pairs ≡ m
  pub begins : fs' ≡ with_flight fs l.step.worker (flight (begun root op))

-- a scan that can find nothing ends as it begins
pub record FindsNone {V : Type 0} (start end size count : ℕ) (fs : Flights V) (m : Pairs V) (l : Line V) (fs' : Flights V) : Type 0 where
  pub free : fs l.step.worker ≡ Over
  pub none : count ≡ 0
  pub scan : IsScan {V = V} start end size (m ∷ []) []
  pub stays : Stays fs m l fs'

-- the same of a call with this range, if it is a scan
abbrev pub EndsEmpty : {V : Type 0} → Option (ℕ × ℕ × ℕ) → ℕ → Flights V → Pairs V → Line V → Flights V → Type 0
EndsEmpty None count fs m l fs' = ⊥
EndsEmpty (Some (start, end, size)) count fs m l fs' = FindsNone start end size count fs m l fs'

-- a call that is done as it begins is such a scan
abbrev pub EndsAtOnce : {V : Type 0} → Flights V → Pairs V → Point V → Answer V → Line V → Flights V → Type 0
EndsAtOnce fs m op (Scanned count) l fs' = EndsEmpty (range_of op) count fs m l fs'
EndsAtOnce fs m op done l fs' = ⊥

-- a call on the tree is refused, is done, or is in flight
abbrev pub BeginsOr : {V : Type 0} → Flights V → Pairs V → Point V → Outcome V → Line V → Flights V → Type 0
BeginsOr fs m op (Refused e) l fs' = Stays fs m l fs'
BeginsOr fs m op (Done done) l fs' = EndsAtOnce fs m op done l fs'
BeginsOr fs m op _ l fs' = BeginsFlight fs m op l fs'

-- a call of one step tells of the map as it stands
pub record TellsSurvey {V : Type 0} (k : Survey) (fs : Flights V) (m : Pairs V) (l : Line V) (fs' : Flights V) : Type 0 where
  pub tells : MapTells m k l.report.outcome
  pub stays : Stays fs m l fs'

-- what a begin makes of the map, by the layer that its call is of
abbrev pub BeginMap : {V : Type 0} → Flights V → Pairs V → Target V → Line V → Flights V → Type 0
BeginMap fs m (target.Collector op) l fs' = Stays fs m l fs'
BeginMap fs m (target.Tree op) l fs' = BeginsOr fs m op l.report.outcome l fs'
BeginMap fs m (target.Survey k) l fs' = TellsSurvey k fs m l fs'

-- a step of a call on one key before it took effect: it goes on, asks, or is refused
pub record IsPending {V : Type 0} (k : ℕ) (kind : Kind V) (v : Option V) (q : Question V) (m : Pairs V) (l : Line V) (f' : Flight V) : Type 0 where
  pub outcome : Moved V
  pub told_so : l.report.outcome ≡ told outcome
  pub undecided : Undecided k kind v q outcome f'
  pub no_entry : l.entry ≡ None
  pub same_pairs : l.pairs ≡ m

-- the step in which it takes effect: the call that began, with its closure's last answer, gets the map's reply, and the
-- map is the next one
pub record TakesEffect {V : Type 0} (same : V → V → Bool) (k : ℕ) (kind : Kind V) (v : Option V) (q : Question V) (m : Pairs V) (l : Line V) (f' : Flight V) : Type 0 where
  pub entry : Entry V
  pub is_entry : l.entry ≡ Some entry
  pub worker : entry.worker ≡ l.step.worker
  pub call : IsCall k kind v (get m k) entry.call
  pub heeds : Heeds kind (get m k) q
  pub answers : Answers same m entry l.pairs
  pub outcome : Moved V
  pub told_so : l.report.outcome ≡ told outcome
  pub concludes : Concludes entry.reply outcome f'

-- one that finds no place in the journal, and is refused for that
pub record EndsFull {V : Type 0} (m : Pairs V) (l : Line V) (f' : Flight V) : Type 0 where
  pub full : l.report.outcome ≡ Refused JournalFull
  pub undecided : l.report.decided ≡ false
  pub over : f' ≡ Over
  pub no_entry : l.entry ≡ None
  pub same_pairs : l.pairs ≡ m

-- a step of a call on one key that has not taken effect, by whether it does now
abbrev pub PendingStep : {V : Type 0} → (V → V → Bool) → ℕ → Kind V → Option V → Question V → Pairs V → Bool → Line V → Flight V → Type 0
PendingStep same k kind v q m false l f' = IsPending k kind v q m l f' ⊎ EndsFull m l f'
PendingStep same k kind v q m true l f' = TakesEffect same k kind v q m l f'

-- one after it: it goes on, or is done with its entry's reply
pub record Finishes {V : Type 0} (r : Reply V) (m : Pairs V) (l : Line V) (f' : Flight V) : Type 0 where
  pub undecided : l.report.decided ≡ false
  pub outcome : Moved V
  pub told_so : l.report.outcome ≡ told outcome
  pub concludes : Concludes r outcome f'
  pub no_entry : l.entry ≡ None
  pub same_pairs : l.pairs ≡ m

-- one of a scan, during which these maps stood
pub record ScanStep {V : Type 0} (start end size : ℕ) (states : List (Pairs V)) (places : List (ℕ × V)) (m : Pairs V) (l : Line V) (f' : Flight V) : Type 0 where
  pub undecided : l.report.decided ≡ false
  pub outcome : Moved V
  pub told_so : l.report.outcome ≡ told outcome
  pub tells : ScanTells start end size states places outcome f'
  pub no_entry : l.entry ≡ None
  pub same_pairs : l.pairs ≡ m

-- a step of a call in flight, by how far it has come
abbrev pub FlightStep : {V : Type 0} → (V → V → Bool) → Flight V → Pairs V → Option (Option V) → Line V → Flight V → Type 0
FlightStep same (Pending k kind v q) m answer l f' = PendingStep same k kind (value_answered kind q answer v) (resolved kind q answer) m l.report.decided l f'
FlightStep same (Decided r) m answer l f' = Finishes r m l f'
FlightStep same Over m answer l f' = ⊥
FlightStep same (Unbegun start end size) m answer l f' = ScanStep start end size (m ∷ []) [] m l f'
FlightStep same (Scanning start end size states places) m answer l f' = ScanStep start end size (m ∷ states) places m l f'

-- a worker's call on the tree takes a step, where it has one in flight
pub record StepsFlight {V : Type 0} (same : V → V → Bool) (fs : Flights V) (f : Flight V) (m : Pairs V) (answer : Option (Option V)) (l : Line V) (fs' : Flights V) : Type 0 where
  pub next : Flight V
  pub step : FlightStep same f m answer l next
  pub with_next : fs' ≡ with_flight fs l.step.worker next

-- a further step: of a call on the tree, or of one that leaves the map
abbrev pub GoMap : {V : Type 0} → (V → V → Bool) → Flights V → Flight V → Pairs V → Option (Option V) → Line V → Flights V → Type 0
GoMap same fs Over m answer l fs' = Stays fs m l fs'
GoMap same fs f m answer l fs' = StepsFlight same fs f m answer l fs'

-- what a step makes of the map, by its event
abbrev pub EventMap : {V : Type 0} → (V → V → Bool) → Flights V → Pairs V → Event V → Line V → Flights V → Type 0
EventMap same fs m Register l fs' = Stays fs m l fs'
EventMap same fs m (Begin op) l fs' = BeginMap fs m (target op) l fs'
EventMap same fs m (Go noise) l fs' = GoMap same fs (fs l.step.worker) m noise.answer l fs'

-- one step, on the map
abbrev pub MapStep : {V : Type 0} → (V → V → Bool) → Flights V → Pairs V → Line V → Flights V → Type 0
MapStep same fs m l fs' = EventMap same fs m l.step.event l fs'

-- whether the call of an entry is a look-up
abbrev pub looks_up : {V : Type 0} → Entered V → Bool
looks_up (entered.Get k) = true
looks_up _ = false
