-- A call's next step takes its closure's answer exactly after a step of it that asks.
use Rattle.std.proofs.Common.{◌≡◌, ◌≢◌, ◌==◌, ◌<◌, ℕ, Bool, true, false, List, [], ◌∷◌, refl, sym, ◌∙◌, ap, subst, inl, inr}
use Rattle.std.specs.Prelude.{Option, None, Some, slice_get}
use Rattle.std.proofs.lemmas.Bool.{cases_Bool, eqb-true, eqb-false, false≢true}
use Rattle.judge.specs.declared.journal.Reply.{Reply}
use Rattle.judge.specs.Answer.{Pairs}
use Rattle.crossbeam_epoch.specs.declared.fault.Fault.{Fault}
use Rattle.crossbeam_epoch.specs.declared.world.report.Outcome.{Outcome as CollectorOutcome}
use Rattle.crossbeam_epoch.specs.declared.world.report.Outcome.TheVariants as collector_outcome
use Rattle.congee.specs.declared.protocol.machine.Machine.{Machine}
use Rattle.congee.specs.declared.protocol.machine.Noise.{Noise}
use Rattle.congee.specs.declared.protocol.machine.Outcome.{Outcome as Moved}
use Rattle.congee.specs.declared.protocol.machine.Outcome.TheVariants as moved
use Rattle.congee.specs.declared.protocol.op.Op.{Op as Point}
use Rattle.congee.specs.declared.protocol.phase.Kind.{Kind}
use Rattle.congee.specs.declared.protocol.phase.Phase.{Phase}
use Rattle.congee.specs.declared.protocol.phase.Phase.TheVariants.{Scan, Ended}
use Rattle.congee.specs.declared.protocol.scan.ScanState.{ScanState as ScanState}
use Rattle.congee.specs.protocol.Play.{Flight, Pending, Decided, Over, Unbegun, Scanning, Question, Unasked, Asked, Replied, Carries, Undecided, Concludes, ScanTells, Follows, ScanFollows, begun, flight, flight_in}
use Rattle.congee.specs.protocol.State.{is_done, is_past}
use Rattle.joint.specs.declared.engine.in_flight.InFlight.{InFlight}
use Rattle.joint.specs.declared.engine.in_flight.InFlight.TheVariants.{Idle, Collecting, Reserving, Securing, Walking}
use Rattle.joint.specs.declared.id.Id.{Id}
use Rattle.joint.specs.declared.steps.Event.{Event}
use Rattle.joint.specs.declared.steps.Event.TheVariants.{Register, Begin, Go}
use Rattle.joint.specs.declared.steps.Outcome.{Outcome}
use Rattle.joint.specs.declared.steps.Outcome.TheVariants.{Done, Refused}
use Rattle.joint.specs.declared.steps.Report.{Report}
use Rattle.joint.specs.declared.steps.Step.{Step}
use Rattle.joint.specs.declared.steps.Target.{Target}
use Rattle.joint.specs.declared.steps.Target.TheVariants as target
use Rattle.joint.specs.engine.Intact.{IsAt}
use Rattle.joint.specs.Names.{root}
use Rattle.joint.specs.engine.Journaling.{asks_at}
use Rattle.joint.specs.Reports.{collected, target, told}
use Rattle.joint.specs.calls.Runs.{Taken, AreTaken, after_all}
use Rattle.joint.specs.world.MapSteps.{EventMap, GoMap, PendingStep, BeginMap, BeginsOr, Line}
use Rattle.joint.specs.engine.Engine.{IsFresh, World, EngineHolds, Does, GoesAt, engine_of, misuse, place_of, reserving}
use Rattle.joint.specs.engine.Flying.{Flights, AreInFlight, no_flights, with_flight}
use Rattle.joint.specs.engine.Sound.{IsUnderWay}
use Rattle.joint.specs.calls.Wanted.{is_question, wants_if, wants_after}
use Rattle.joint.specs.world.World.{Holds, IsStep, StepsUnless, finds_journal_full}
use Rattle.joint.proofs.lemmas.engine.Collecting.{get_inside}
use Rattle.joint.proofs.lemmas.world.Flights.{ends_stays, flight_here, flight_apart}
use Rattle.joint.proofs.lemmas.world.JournaledSteps.{step_mapped}
use Rattle.joint.proofs.lemmas.world.JournalPlaces.{asks_here, begun_asks}
use Rattle.joint.proofs.lemmas.world.Requested.{asks, is_asked}
use Rattle.joint.proofs.lemmas.calls.Runs.{fresh_flights}
use Rattle.std.proofs.lemmas.Option.{slice_get_within}

-- nothing that is told of the collector is a question
pub of_collector : (V : Type 0) (o : CollectorOutcome) → is_question {V = V} (collected o) ≡ false
of_collector V collector_outcome.Running = refl
of_collector V collector_outcome.Done = refl
of_collector V (collector_outcome.Refused f) = refl

of_reserving : (V : Type 0) (o : CollectorOutcome) → is_question {V = V} (reserving o) ≡ false
of_reserving V collector_outcome.Running = refl
of_reserving V collector_outcome.Done = refl
of_reserving V (collector_outcome.Refused f) = refl

module _ {V : Type 0} where
  -- a step of a call tells what the call wants after it
  undecided_tells : (k : ℕ) (kd : Kind V) (v : Option V) (q : Question V) (o : Moved V) (f : Flight V) → Undecided k kd v q o f → asks f ≡ is_question {V = V} (told o)
  undecided_tells k kd v q moved.Running f u = ap asks u.2 ∙ carried u.0 u.1
    where
      carried : (p : Question V) → Carries q p → is_asked p ≡ false
      carried Unasked c = refl
      carried (Asked x) c = absurd c
      carried (Replied x) c = refl
  undecided_tells k kd v q (moved.Asks x) f u = ap asks u.1
  undecided_tells k kd v q (moved.Done r) f u = absurd u
  undecided_tells k kd v q (moved.Refused e) f u = ap asks u
  undecided_tells k kd v q (moved.Found place key x) f u = absurd u
  undecided_tells k kd v q (moved.Scanned count) f u = absurd u

  concluded_tells : (r : Reply V) (o : Moved V) (f : Flight V) → Concludes r o f → asks f ≡ is_question {V = V} (told o)
  concluded_tells r moved.Running f u = ap asks u
  concluded_tells r (moved.Asks x) f u = absurd u
  concluded_tells r (moved.Done s) f u = ap asks u.1
  concluded_tells r (moved.Refused e) f u = absurd u
  concluded_tells r (moved.Found place key x) f u = absurd u
  concluded_tells r (moved.Scanned count) f u = absurd u

  scan_tells : (start end size : ℕ) (states : List (Pairs V)) (places : List (ℕ × V)) (o : Moved V) (f : Flight V) → ScanTells start end size states places o f → asks f ≡ is_question {V = V} (told o)
  scan_tells start end size states places moved.Running f u = ap asks u
  scan_tells start end size states places (moved.Asks x) f u = absurd u
  scan_tells start end size states places (moved.Done s) f u = absurd u
  scan_tells start end size states places (moved.Refused e) f u = ap asks u
  scan_tells start end size states places (moved.Found place key x) f u = ap asks u.1
  scan_tells start end size states places (moved.Scanned count) f u = ap asks u.2

  pending_tells : (same : V → V → Bool) (k : ℕ) (kd : Kind V) (v : Option V) (q : Question V) (m : Pairs V) (b : Bool) (l : Line V) (f : Flight V) → PendingStep same k kd v q m b l f → asks f ≡ is_question l.report.outcome
  pending_tells same k kd v q m false l f (inl x) = undecided_tells k kd v q x.outcome f x.undecided ∙ sym (ap is_question x.told_so)
  pending_tells same k kd v q m false l f (inr x) = ap asks x.over ∙ sym (ap is_question x.full)
  pending_tells same k kd v q m true l f x = concluded_tells x.entry.reply x.outcome f x.concludes ∙ sym (ap is_question x.told_so)

  -- a call that goes on tells for itself; one that is none on the tree tells by what is told of it
  here_tells : (same : V → V → Bool) (fs : Flights V) (f : Flight V) (m : Pairs V) (answer : Option (Option V)) (l : Line V) (fs' : Flights V) → fs l.step.worker ≡ f → (f ≡ Over → is_question l.report.outcome ≡ false) → GoMap same fs f m answer l fs'
      → asks (fs' l.step.worker) ≡ is_question l.report.outcome
  here_tells same fs Over m answer l fs' e n x = ap (λ (y : Flights V). asks (y l.step.worker)) x.same_flights ∙ ap asks e ∙ sym (n refl)
  here_tells same fs (Pending k kd v q) m answer l fs' e n x = ap (λ (y : Flights V). asks (y l.step.worker)) x.with_next ∙ ap asks (flight_here fs l.step.worker x.next) ∙ pending_tells same k kd _ _ m l.report.decided l x.next x.step
  here_tells same fs (Decided r) m answer l fs' e n x = ap (λ (y : Flights V). asks (y l.step.worker)) x.with_next ∙ ap asks (flight_here fs l.step.worker x.next) ∙ concluded_tells r x.step.outcome x.next x.step.concludes ∙ sym (ap is_question x.step.told_so)
  here_tells same fs (Unbegun start end size) m answer l fs' e n x = ap (λ (y : Flights V). asks (y l.step.worker)) x.with_next ∙ ap asks (flight_here fs l.step.worker x.next) ∙ scan_tells start end size _ _ x.step.outcome x.next x.step.tells ∙ sym (ap is_question x.step.told_so)
  here_tells same fs (Scanning start end size states places) m answer l fs' e n x = ap (λ (y : Flights V). asks (y l.step.worker)) x.with_next ∙ ap asks (flight_here fs l.step.worker x.next) ∙ scan_tells start end size _ _ x.step.outcome x.next x.step.tells ∙ sym (ap is_question x.step.told_so)

  -- and leaves the others
  apart_stays : (same : V → V → Bool) (fs : Flights V) (f : Flight V) (m : Pairs V) (answer : Option (Option V)) (l : Line V) (fs' : Flights V) (w : ℕ) → w ≢ l.step.worker → GoMap same fs f m answer l fs' → fs' w ≡ fs w
  apart_stays same fs Over m answer l fs' w n x = ap (λ (y : Flights V). y w) x.same_flights
  apart_stays same fs (Pending k kd v q) m answer l fs' w n x = ap (λ (y : Flights V). y w) x.with_next ∙ flight_apart fs l.step.worker w x.next n
  apart_stays same fs (Decided r) m answer l fs' w n x = ap (λ (y : Flights V). y w) x.with_next ∙ flight_apart fs l.step.worker w x.next n
  apart_stays same fs (Unbegun start end size) m answer l fs' w n x = ap (λ (y : Flights V). y w) x.with_next ∙ flight_apart fs l.step.worker w x.next n
  apart_stays same fs (Scanning start end size states places) m answer l fs' w n x = ap (λ (y : Flights V). y w) x.with_next ∙ flight_apart fs l.step.worker w x.next n

  -- a begin leaves what each call wants
  accepted_stays : (fs : Flights V) (w u : ℕ) (p : Point V) → fs u ≡ Over → asks (with_flight fs u (flight (begun root p)) w) ≡ asks (fs w)
  accepted_stays fs w u p e = elim (cases_Bool (w == u)) [
    | inl q ↦ (
        let P : ℕ → Type 0 = λ y. asks (with_flight fs u (flight (begun root p)) y) ≡ asks (fs y) in
        subst P (sym (eqb-true w u q)) (ap asks (flight_here fs u _) ∙ begun_asks p ∙ sym (ap asks e)))
    | inr q ↦ ap asks (flight_apart fs u w _ (eqb-false w u q))
  ]

  begins_stays : (fs : Flights V) (m : Pairs V) (p : Point V) (o : Outcome V) (l : Line V) (fs' : Flights V) (w : ℕ) → BeginsOr fs m p o l fs' → asks (fs' w) ≡ asks (fs w)
  begins_stays fs m p (Refused e) l fs' w x = ap (λ (y : Flights V). asks (y w)) x.same_flights
  begins_stays fs m p (Done d) l fs' w x = ap (λ (y : Flights V). asks (y w)) (ends_stays fs m p d l fs' x).same_flights
  begins_stays fs m p _ l fs' w x = ap (λ (y : Flights V). asks (y w)) x.begins ∙ accepted_stays fs w l.step.worker p x.free

  target_stays : (fs : Flights V) (m : Pairs V) (t : Target V) (l : Line V) (fs' : Flights V) (w : ℕ) → BeginMap fs m t l fs' → asks (fs' w) ≡ asks (fs w)
  target_stays fs m (target.Collector c) l fs' w x = ap (λ (y : Flights V). asks (y w)) x.same_flights
  target_stays fs m (target.Tree p) l fs' w x = begins_stays fs m p l.report.outcome l fs' w x
  target_stays fs m (target.Survey k) l fs' w x = ap (λ (y : Flights V). asks (y w)) x.stays.same_flights

  event_tells : (same : V → V → Bool) (fs : Flights V) (m : Pairs V) (event : Event V) (l : Line V) (fs' : Flights V) (w : ℕ) → ((noise : Noise Id V) → event ≡ Go noise → fs l.step.worker ≡ Over → is_question l.report.outcome ≡ false) → EventMap same fs m event l fs'
      → (b : Bool) → (l.step.worker == w) ≡ b → asks (fs' w) ≡ wants_if (asks (fs w)) b event l.report.outcome
  event_tells same fs m Register l fs' w n x true e = ap (λ (y : Flights V). asks (y w)) x.same_flights
  event_tells same fs m Register l fs' w n x false e = ap (λ (y : Flights V). asks (y w)) x.same_flights
  event_tells same fs m (Begin o) l fs' w n x true e = target_stays fs m (target o) l fs' w x
  event_tells same fs m (Begin o) l fs' w n x false e = target_stays fs m (target o) l fs' w x
  event_tells same fs m (Go noise) l fs' w n x true e =
      let P : ℕ → Type 0 = λ y. asks (fs' y) ≡ is_question l.report.outcome in
      subst P (eqb-true l.step.worker w e) (here_tells same fs (fs l.step.worker) m noise.answer l fs' refl (n noise refl) x)
  event_tells same fs m (Go noise) l fs' w n x false e = ap asks (apart_stays same fs (fs l.step.worker) m noise.answer l fs' w (λ q. eqb-false l.step.worker w e (sym q)) x)

  -- a call on the tree that is under way is watched
  pointed : (k : ℕ) (kd : Kind V) (v : Option V) (x : Phase Id V) → IsUnderWay x → flight_in k kd v x ≡ Over → ⊥
  pointed k kd v Ended u e = u
  pointed k kd v _ u e = cc e

  scanned : (s : ScanState Id V) → is_done {V = V} (Scan s) ≡ false → ScanFollows s Over → ⊥
  scanned s d (inl x) = let e = x.0 in cc e
  scanned s d (inr (inl x)) = absurd (false≢true (sym d ∙ ap is_past x.1))
  scanned s d (inr (inr x)) = let e = x.2 in cc e

  watched : (m : Machine Id V) → IsUnderWay m.phase → is_done m.phase ≡ false → Follows m Over → ⊥
  watched m u d (inl x) = pointed m.key m.kind m.given m.phase u (sym x.1)
  watched m u d (inr x) = scanned x.0 (sym (ap is_done x.1) ∙ d) x.2

module _ {V : Type 0} (same : V → V → Bool) (always : Bool) where
  -- a step of a worker that has no call on the tree asks nothing
  module _ (s s' : World V) (w : ℕ) (holds : EngineHolds same always s) (fs : Flights V) (fl : AreInFlight s fs) (over : fs w ≡ Over) where
    none_walks : slice_get s.calls w ≡ Some Walking → ⊥
    none_walks e =
        let x : (y : Machine Id V) × (slice_get s.machines w ≡ Some y) = get_inside s.machines w (subst (λ n. w < n) (sym holds.0.machines) (slice_get_within s.calls w Walking e)) in
        let at : IsAt Walking (place_of s w) x.0 = holds.0.each w Walking x.0 e x.1 in
        watched x.0 at.0 at.1 (subst (λ (f : Flight V). Follows x.0 f) over (fl.each w Walking x.0 e x.1))

    goes_quiet : (k : Option (InFlight V)) (noise : Noise Id V) (r : Report V) → slice_get s.calls w ≡ k → GoesAt same always s w k noise r s' → is_question r.outcome ≡ false
    goes_quiet None noise r e x = absurd x
    goes_quiet (Some Idle) noise r e x = absurd x
    goes_quiet (Some (Collecting c)) noise r e x = ap (λ y. is_question y.outcome) x.report ∙ of_collector V x.collector_report.outcome
    goes_quiet (Some (Reserving p)) noise r e x = ap (λ y. is_question y.outcome) x.goes.report ∙ of_reserving V x.goes.collector_report.outcome
    goes_quiet (Some (Securing p)) noise r e x = ap (λ y. is_question y.outcome) x.report ∙ of_reserving V x.collector_report.outcome
    goes_quiet (Some Walking) noise r e x = absurd (none_walks e)

    does_quiet : (noise : Noise Id V) (o : Option Fault) (r : Report V) → Does same always s w (Go noise) o r s' → is_question r.outcome ≡ false
    does_quiet noise None r x = goes_quiet (slice_get s.calls w) noise r refl x
    does_quiet noise (Some f) r x = ap (λ y. is_question y.outcome) x.0

  step_quiet : (s s' : World V) (step : Step V) (r : Report V) (b : Bool) (holds : Holds same always s) (fs : Flights V) → AreInFlight s fs → (noise : Noise Id V) → step.event ≡ Go noise → fs step.worker ≡ Over → StepsUnless same always b s step r s' → is_question r.outcome ≡ false
  step_quiet s s' step r true holds fs fl noise e over x = ap (λ y. is_question y.outcome) x.report
  step_quiet s s' step r false holds fs fl noise e over x =
      let P : Event V → Type 0 = λ y. Does same always (engine_of s) step.worker y (misuse (engine_of s) step.worker y) x.told (engine_of s') in
      ap (λ y. is_question y.outcome) x.report
      ∙ does_quiet (engine_of s) (engine_of s') step.worker (holds.0, holds.1) fs (record { each = fl.each; beyond = fl.beyond }) over noise (misuse (engine_of s) step.worker (Go noise)) x.told (subst P e x.engine.does)

  -- a call wants an answer after a step of its own that asks, and after another's where it did before
  pub step_wants : (s : World V) (step : Step V) (r : Report V) (s' : World V) (w : ℕ) → Holds same always s → IsStep same always s step r s'
      → asks_at (slice_get s'.machines w) ≡ wants_if (asks_at (slice_get s.machines w)) (step.worker == w) step.event r.outcome
  step_wants s step r s' w h x =
      let a = step_mapped same always s step s' h.2.flights h.2.pairs h x.holds h.2.stand h.2.in_flight r x in
      let l : Line V = record { step = step; report = r; entry = a.entry; pairs = a.pairs } in
      let before = asks_here same always s w (h.0, h.1) h.2.flights h.2.in_flight in
      let after = asks_here same always s' w (x.holds.0, x.holds.1) a.flights a.in_flight in
      let quiet : (noise : Noise Id V) → step.event ≡ Go noise → h.2.flights step.worker ≡ Over → is_question r.outcome ≡ false = λ noise e over. step_quiet s s' step r (finds_journal_full s step.worker step.event) h h.2.flights h.2.in_flight noise e over x.does in
      after ∙ event_tells same h.2.flights h.2.pairs step.event l a.flights w quiet a.map (step.worker == w) refl ∙ sym (ap (λ b. wants_if b (step.worker == w) step.event r.outcome) before)

  -- after any steps a call wants an answer just where what its worker was told says so
  pub run_wants : (s : World V) (ts : List (Taken V)) (w : ℕ) → Holds same always s → AreTaken same always s ts → asks_at (slice_get (after_all s ts).machines w) ≡ wants_after w (asks_at (slice_get s.machines w)) ts
  run_wants s [] w h x = refl
  run_wants s (t ∷ ts) w h x = run_wants t.after ts w x.0.holds x.1 ∙ ap (λ b. wants_after w b ts) (step_wants s t.step t.report t.after w h x.0)

  -- from a root alone on it wants one just where what the worker was told since says so
  pub fresh_wants : (s : World V) (ts : List (Taken V)) (w : ℕ) → IsFresh s → Holds same always s → AreTaken same always s ts → asks_at (slice_get (after_all s ts).machines w) ≡ wants_after w false ts
  fresh_wants s ts w fresh h x = run_wants s ts w h x ∙ ap (λ b. wants_after w b ts) (asks_here same always s w (h.0, h.1) no_flights (fresh_flights same always s fresh))
