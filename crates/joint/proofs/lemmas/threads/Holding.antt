-- What a hold of the lock tells within a call, and the same call seen without what gave its turns.
use Rattle.std.proofs.Common.{◌≡◌, ℕ, Bool, true, false, List, [], ◌∷◌, refl, sym, ◌∙◌, ap, subst}
use Rattle.std.specs.Prelude.{Option, None, Some, is_none, is_some, if◌then◌else◌, slice_get}
use Rattle.crossbeam_epoch.specs.declared.fault.Fault.{Fault}
use Rattle.crossbeam_epoch.specs.declared.fault.Fault.TheVariants as fault
use Rattle.crossbeam_epoch.specs.declared.world.participant.Participant.{Participant}
use Rattle.crossbeam_epoch.specs.declared.world.participant.Phase.{Phase}
use Rattle.crossbeam_epoch.specs.declared.world.participant.Phase.TheVariants as phase
use Rattle.crossbeam_epoch.specs.declared.world.report.Event.{Event as CollectorEvent}
use Rattle.crossbeam_epoch.specs.declared.world.report.Event.TheVariants as collector_event
use Rattle.crossbeam_epoch.specs.declared.world.report.Op.{Op as CollectorOp}
use Rattle.crossbeam_epoch.specs.declared.world.report.Op.TheVariants as collector_op
use Rattle.crossbeam_epoch.specs.declared.world.report.Outcome.{Outcome as CollectorOutcome}
use Rattle.crossbeam_epoch.specs.declared.world.report.Outcome.TheVariants as collector_outcome
use Rattle.crossbeam_epoch.specs.world.Machine.{State, place}
use Rattle.crossbeam_epoch.specs.world.Steps as collector
use Rattle.congee.specs.declared.protocol.machine.Noise.{Noise}
use Rattle.congee.specs.declared.protocol.machine.Outcome.{Outcome as Moved}
use Rattle.congee.specs.declared.protocol.machine.Outcome.TheVariants as moved
use Rattle.congee.specs.declared.protocol.op.Op.{Op as Point}
use Rattle.congee.specs.declared.protocol.op.Op.TheVariants as point
use Rattle.congee.specs.declared.protocol.store.Refusal.TheVariants as cause
use Rattle.congee.specs.Heap.{Node}
use Rattle.joint.specs.declared.engine.in_flight.InFlight.{InFlight}
use Rattle.joint.specs.declared.engine.in_flight.InFlight.TheVariants as call
use Rattle.joint.specs.declared.id.Id.{Id}
use Rattle.joint.specs.declared.refusal.Refusal.TheVariants.{Memory}
use Rattle.joint.specs.declared.steps.Done.TheVariants as done
use Rattle.joint.specs.declared.steps.Event.{Event}
use Rattle.joint.specs.declared.steps.Event.TheVariants.{Register, Begin, Go}
use Rattle.joint.specs.declared.steps.Op.{Op}
use Rattle.joint.specs.declared.steps.Outcome.{Outcome}
use Rattle.joint.specs.declared.steps.Outcome.TheVariants.{Running, Asks, Found, Registered, Done, Refused}
use Rattle.joint.specs.declared.steps.Report.{Report}
use Rattle.joint.specs.declared.steps.Step.{Step}
use Rattle.joint.specs.declared.steps.Survey.{Survey}
use Rattle.joint.specs.declared.steps.Survey.TheVariants as survey
use Rattle.joint.specs.declared.steps.Target.{Target}
use Rattle.joint.specs.declared.steps.Target.TheVariants as target
use Rattle.joint.specs.threads.Driving.{AreTurns, Goes, IsGo, IsToldInCall, IsTurn, Turn as OneTurn, Turns}
use Rattle.joint.specs.Refusals.{of_fault}
use Rattle.joint.specs.Reports.{target, told, collected}
use Rattle.joint.specs.engine.Surveys.{TellsOf}
use Rattle.joint.specs.threads.Threads.{IsHold}
use Rattle.joint.specs.world.World.{StepsUnless, finds_journal_full}
use Rattle.joint.specs.engine.Engine.{BeginsAt, BeginsOnTree, Collects, Does, EntersUnless, GoesAt, IsOfCall, Proceeds, World, engine_of, finds_none, interruption, is_busy, misuse, place_of, reserving, unready}

-- not for tokens of another index
abbrev Own : Option Fault → Type 0
Own (Some fault.Foreign) = ⊥
Own _ = Unit {0}

own_when : (b : Bool) (f : Fault) → Own (Some f) → Own (collector.when b f)
own_when true f o = o
own_when false f o = tt {0}

own_if : (b : Bool) (x y : Option Fault) → Own x → Own y → Own (if b then x else y)
own_if true x y a b = a
own_if false x y a b = b

module _ {J : Type 0} (p : Participant J) where
  begin_own : (op : CollectorOp) → Own (collector.begin_fault op p)
  begin_own collector_op.Pin = own_when _ fault.Count (tt {0})
  begin_own collector_op.Unpin = own_when (is_none p.word) fault.Unpinned (tt {0})
  begin_own collector_op.Repin = own_when (is_none p.word) fault.Unpinned (tt {0})
  begin_own collector_op.Flush = own_when (is_none p.word) fault.Unpinned (tt {0})
  begin_own collector_op.Release = own_when (is_some p.word) fault.GuardOut (tt {0})
  begin_own (collector_op.Secure n) = own_if (is_none p.word) (Some fault.Unpinned) _ (tt {0}) (own_when _ fault.Limits (tt {0}))

  busy_own : (op : CollectorOp) → Own (Some (collector.busy_fault op))
  busy_own collector_op.Pin = tt {0}
  busy_own (collector_op.Secure n) = tt {0}
  busy_own _ = tt {0}

  event_own : (event : CollectorEvent) (ph : Phase) → Own (collector.event_fault event ph p)
  event_own (collector_event.Begin op) phase.Idle = begin_own op
  event_own (collector_event.Begin op) _ = busy_own op
  event_own collector_event.Go phase.Idle = tt {0}
  event_own collector_event.Go _ = tt {0}

  unready_own : {V : Type 0} (t : Target V) → Own (unready t p)
  unready_own (target.Collector op) = begin_own op
  unready_own (target.Tree op) = own_when (is_none p.word) fault.Unpinned (tt {0})
  unready_own (target.Survey survey.IsEmpty) = own_when (is_none p.word) fault.Unpinned (tt {0})
  unready_own (target.Survey survey.Keys) = tt {0}
  unready_own (target.Survey survey.Stats) = tt {0}

  interruption_own : {V : Type 0} (t : Target V) → Own (Some (interruption t))
  interruption_own (target.Collector op) = busy_own op
  interruption_own (target.Tree op) = tt {0}
  interruption_own (target.Survey k) = tt {0}

fault_own : {T J : Type 0} (s : State T J) (who : ℕ) (event : CollectorEvent) → Own (collector.fault s who event)
fault_own s who event = own_if (place s who).registered _ (Some fault.Unknown) (event_own (place s who) event (place s who).phase) (tt {0})

misuse_own : {V : Type 0} (s : World V) (who : ℕ) (event : Event V) → Own (misuse s who event)
misuse_own s who Register = tt {0}
misuse_own s who (Begin op) =
    own_if (place_of s who).registered _ (Some fault.Unknown)
    (own_if (is_busy (slice_get s.calls who)) (Some (interruption (target op))) _ (interruption_own (place_of s who) (target op)) (unready_own (place_of s who) (target op))) (tt {0})
misuse_own s who (Go noise) = own_if (place_of s who).registered _ (Some fault.Unknown) (own_if (is_busy (slice_get s.calls who)) None (Some fault.Idle) (tt {0}) (tt {0})) (tt {0})

module _ (V : Type 0) where
  fault_tells : (f : Fault) → Own (Some f) → IsToldInCall {V = V} (Refused (of_fault f))
  fault_tells fault.Foreign o = absurd o
  fault_tells _ o = tt {0}

  collected_tells : {T J : Type 0} (s : State T J) (who : ℕ) (event : CollectorEvent) (x : Option Fault) (o : CollectorOutcome) → Own x → collector.IsOutcome s who event x o → IsToldInCall {V = V} (collected o)
  collected_tells s who event (Some f) o own is = subst (λ o. IsToldInCall {V = V} (collected o)) (sym is) (fault_tells f own)
  collected_tells s who event None collector_outcome.Running own is = tt {0}
  collected_tells s who event None collector_outcome.Done own is = tt {0}
  collected_tells s who event None (collector_outcome.Refused fault.Memory) own is = tt {0}
  collected_tells s who event None (collector_outcome.Refused _) own is = absurd is

  reserving_tells : (o : CollectorOutcome) → IsToldInCall {V = V} (collected o) → IsToldInCall {V = V} (reserving o)
  reserving_tells collector_outcome.Running t = t
  reserving_tells collector_outcome.Done t = tt {0}
  reserving_tells (collector_outcome.Refused f) t = t

module _ {V : Type 0} where
  moved_tells : (o : Moved V) → IsToldInCall (told o)
  moved_tells (moved.Refused cause.Cells) = tt {0}
  moved_tells (moved.Refused _) = tt {0}
  moved_tells _ = tt {0}

  survey_tells : (h : ℕ → Node V) (k : Survey) (o : Outcome V) → TellsOf h k o → IsToldInCall o
  survey_tells h survey.Keys (Done (done.Keys keys)) t = tt {0}
  survey_tells h survey.Keys (Refused Memory) t = tt {0}
  survey_tells h survey.Keys _ t = absurd t
  survey_tells h survey.IsEmpty (Done (done.Empty b)) t = tt {0}
  survey_tells h survey.IsEmpty _ t = absurd t
  survey_tells h survey.Stats (Done (done.Stats stats)) t = tt {0}
  survey_tells h survey.Stats (Refused Memory) t = tt {0}
  survey_tells h survey.Stats _ t = absurd t

module _ {V : Type 0} (same : V → V → Bool) (always : Bool) (s s' : World V) (who : ℕ) where
  abbrev Tells : Report V → Type 0
  Tells r = IsToldInCall r.outcome

  so : (r : Report V) (o : Outcome V) → r.outcome ≡ o → IsToldInCall o → Tells r
  so r o is t = subst IsToldInCall (sym is) t

  collects : (b : World V) (event : CollectorEvent) (k : InFlight V) (r : Report V) → Collects same always b who event k r s' → Tells r
  collects b event k r x =
      so r (collected x.collector_report.outcome) (ap (λ r. r.outcome) x.report)
      (collected_tells V b.forest.collector who event _ x.collector_report.outcome (fault_own b.forest.collector who event) x.step.report.outcome)

  enters : (none : Bool) (op : Point V) (r : Report V) → EntersUnless none s who op r s' → Tells r
  enters true op r x = so r (Done (done.Scanned 0)) (ap (λ r. r.outcome) x.report) (tt {0})
  enters false op r x = so r Running (ap (λ r. r.outcome) x.report) (tt {0})

  begins_tree : (op : Point V) (r : Report V) → BeginsOnTree same always s who op r s' → Tells r
  begins_tree (point.Get k) r x = so r Running (ap (λ r. r.outcome) x.report) (tt {0})
  begins_tree (point.Range start end size) r x = enters (finds_none {V = V} (point.Range start end size)) (point.Range start end size) r x
  begins_tree (point.RangeInclusive start last size) r x = enters (finds_none {V = V} (point.RangeInclusive start last size)) (point.RangeInclusive start last size) r x
  begins_tree (point.Insert k v) r x = so r Running (ap (λ r. r.outcome) x.report) (tt {0})
  begins_tree (point.Remove k) r x = so r Running (ap (λ r. r.outcome) x.report) (tt {0})
  begins_tree (point.ComputePresent k) r x = so r Running (ap (λ r. r.outcome) x.report) (tt {0})
  begins_tree (point.ComputeInsert k) r x = so r Running (ap (λ r. r.outcome) x.report) (tt {0})
  begins_tree (point.Exchange k old new) r x = so r Running (ap (λ r. r.outcome) x.report) (tt {0})

  begins : (t : Target V) (r : Report V) → BeginsAt same always s who t r s' → Tells r
  begins (target.Collector op) r x = collects s (collector_event.Begin op) (call.Collecting op) r x
  begins (target.Tree op) r x = begins_tree op r x
  begins (target.Survey k) r x = so r x.outcome (ap (λ r. r.outcome) x.report) (survey_tells _ k x.outcome x.tells)

  goes : (k : Option (InFlight V)) (noise : Noise Id V) (r : Report V) → GoesAt same always s who k noise r s' → Tells r
  goes None noise r x = absurd x
  goes (Some call.Idle) noise r x = absurd x
  goes (Some (call.Collecting op)) noise r x = collects s collector_event.Go (call.Collecting op) r x
  goes (Some (call.Reserving op)) noise r x =
      so r (reserving x.goes.collector_report.outcome) (ap (λ r. r.outcome) x.goes.report)
      (reserving_tells V x.goes.collector_report.outcome (collected_tells V x.between.forest.collector who collector_event.Go _ x.goes.collector_report.outcome (fault_own x.between.forest.collector who collector_event.Go) x.goes.step.collected.report.outcome))
  goes (Some (call.Securing op)) noise r x =
      so r (reserving x.collector_report.outcome) (ap (λ r. r.outcome) x.report)
      (reserving_tells V x.collector_report.outcome (collected_tells V s.forest.collector who collector_event.Go _ x.collector_report.outcome (fault_own s.forest.collector who collector_event.Go) x.step.collected.report.outcome))
  goes (Some call.Walking) noise r x = so r (told x.move.outcome) (ap (λ r. r.outcome) x.report) (moved_tells x.move.outcome)

  proceeds : (event : Event V) (r : Report V) → IsOfCall event → Proceeds same always s who event r s' → Tells r
  proceeds Register r c x = absurd c
  proceeds (Begin op) r c x = begins (target op) r x
  proceeds (Go noise) r c x = goes (slice_get s.calls who) noise r x

  does : (event : Event V) (f : Option Fault) (r : Report V) → IsOfCall event → Own f → Does same always s who event f r s' → Tells r
  does event (Some f) r c own x = so r (Refused (of_fault f)) (ap (λ r. r.outcome) x.0) (fault_tells V f own)
  does event None r c own x = proceeds event r c x

module _ {V : Type 0} where
  goes_on_call : (who : ℕ) (o : Outcome V) (step : Step V) → IsGo who o step → IsOfCall step.event
  goes_on_call who Running step g = subst (λ (x : Step V). IsOfCall x.event) (sym g) (tt {0})
  goes_on_call who (Asks found) step g = subst (λ (x : Step V). IsOfCall x.event) (sym g.1) (tt {0})
  goes_on_call who (Found place key value) step g = subst (λ (x : Step V). IsOfCall x.event) (sym g) (tt {0})
  goes_on_call who (Registered n) step g = absurd g
  goes_on_call who (Done d) step g = absurd g
  goes_on_call who (Refused e) step g = absurd g

  -- a turn is a step of a call, and of its worker
  pub turn_of_call : (who : ℕ) (op : Op V) (last : Option (Report V)) (step : Step V) → IsTurn who op last step → IsOfCall step.event
  turn_of_call who op None step t = subst (λ (x : Step V). IsOfCall x.event) (sym t) (tt {0})
  turn_of_call who op (Some r) step t = goes_on_call who r.outcome step t

  go_worker : (who : ℕ) (o : Outcome V) (step : Step V) → IsGo who o step → step.worker ≡ who
  go_worker who Running step g = ap (λ (x : Step V). x.worker) g
  go_worker who (Asks found) step g = ap (λ (x : Step V). x.worker) g.1
  go_worker who (Found place key value) step g = ap (λ (x : Step V). x.worker) g
  go_worker who (Registered n) step g = absurd g
  go_worker who (Done d) step g = absurd g
  go_worker who (Refused e) step g = absurd g

  -- a turn of a worker's call is a step of that worker's
  pub turn_worker : (who : ℕ) (op : Op V) (last : Option (Report V)) (step : Step V) → IsTurn who op last step → step.worker ≡ who
  turn_worker who op None step t = ap (λ (x : Step V). x.worker) t
  turn_worker who op (Some r) step t = go_worker who r.outcome step t

module _ {V : Type 0} (same : V → V → Bool) (always : Bool) where
  taken_tells : (s s' : World V) (step : Step V) (r : Report V) (gives : Bool) → IsOfCall step.event → StepsUnless same always gives s step r s' → IsToldInCall r.outcome
  taken_tells s s' step r true c x = subst IsToldInCall (sym (ap (λ r. r.outcome) x.report)) (tt {0})
  taken_tells s s' step r false c x =
      let told : IsToldInCall x.told.outcome = does same always (engine_of s) (engine_of s') step.worker step.event (misuse (engine_of s) step.worker step.event) x.told c (misuse_own (engine_of s) step.worker step.event) x.engine.does in
      subst IsToldInCall (sym (ap (λ r. r.outcome) x.report)) told

  -- a step of a call tells no registration, and no token of another index
  pub step_tells : (step : Step V) (r : Report V) → IsOfCall step.event → IsHold same always step r → IsToldInCall r.outcome
  step_tells step r c h = taken_tells h.0 h.1 step r (finds_journal_full h.0 step.worker step.event) c h.2.does

module _ {V Q : Type 0} (hold : ℕ → Op V → Step V → Report V → Type 0) (pair : ℕ → V → Q) (who : ℕ) (op : Op V) {S : Type 0} (worker : S → ℕ) (oper : S → Op V) where
  abbrev Gives : S → Step V → Report V → S → Type 0
  Gives s step r s' = hold (worker s) (oper s) step r × (worker s' ≡ worker s) × (oper s' ≡ oper s)

  -- turns given by a state that keeps worker and call are turns of that call, whoever gave them
  pub anyhow : {F : Type 0} (calls : F → Option V → Option V → F → Type 0) (ts : List (OneTurn V)) (s : S) (f : F) (last : Option (Report V)) (places : List Q) (s' : S) (places' : List Q) (o : Outcome V) → worker s ≡ who → oper s ≡ op
      → AreTurns Gives calls pair who op s f last places ts s' places' o
      → AreTurns {S = Unit {0}} (λ _ step r _. hold who op step r) calls pair who op (tt {0}) f last places ts (tt {0}) places' o
  anyhow calls [] s f last places s' places' o w q h = (refl, h.1, h.2)
  anyhow calls (t ∷ ts) s f last places s' places' o w q h =
      let here : hold who op t.step t.report = subst (λ y. hold who y t.step t.report) q (subst (λ y. hold y (oper s) t.step t.report) w h.3.0) in
      (h.0, tt {0}, h.2, here, anyhow calls ts h.1 h.0 (Some t.report) _ s' places' o (h.3.1 ∙ w) (h.3.2 ∙ q) h.4)

module _ {V S Q : Type 0} (gives : S → Step V → Report V → S → Type 0) (pair : ℕ → V → Q) (who : ℕ) (op : Op V) where
  goes_mute : {F : Type 0} (calls : F → Option V → Option V → F → Type 0) (o : Outcome V) (f : F) (step : Step V) (f' : F) → Goes calls who o f step f' → Goes {F = Unit {0}} (λ _ _ _ _. Unit {0}) who o (tt {0}) step (tt {0})
  goes_mute calls Running f step f' g = (g.0, refl)
  goes_mute calls (Asks found) f step f' g = (g.0, tt {0}, g.2)
  goes_mute calls (Found place key value) f step f' g = (g.0, refl)
  goes_mute calls (Registered n) f step f' g = absurd g
  goes_mute calls (Done d) f step f' g = absurd g
  goes_mute calls (Refused e) f step f' g = absurd g

  turns_mute : {F : Type 0} (calls : F → Option V → Option V → F → Type 0) (last : Option (Report V)) (f : F) (step : Step V) (f' : F) → Turns calls who op last f step f' → Turns {F = Unit {0}} (λ _ _ _ _. Unit {0}) who op last (tt {0}) step (tt {0})
  turns_mute calls None f step f' t = (t.0, refl)
  turns_mute calls (Some r) f step f' t = goes_mute calls r.outcome f step f' t

  -- and they are turns whatever closure answered
  pub mute : {F : Type 0} (calls : F → Option V → Option V → F → Type 0) (ts : List (OneTurn V)) (s : S) (f : F) (last : Option (Report V)) (places : List Q) (s' : S) (places' : List Q) (o : Outcome V) → AreTurns gives calls pair who op s f last places ts s' places' o
      → AreTurns {F = Unit {0}} gives (λ _ _ _ _. Unit {0}) pair who op s (tt {0}) last places ts s' places' o
  mute calls [] s f last places s' places' o h = h
  mute calls (t ∷ ts) s f last places s' places' o h = (tt {0}, h.1, turns_mute calls last f t.step h.0 h.2, h.3, mute calls ts h.1 h.0 (Some t.report) _ s' places' o h.4)
