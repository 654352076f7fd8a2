-- A call that is taken alone ends within its number of steps, by what its worker was told.
use Rattle.std.proofs.Common.{◌≡◌, ◌==◌, ◌<◌, ℕ, Bool, true, false, List, [], ◌∷◌, take, refl, sym, ◌∙◌, ap, subst, inl, inr}
use Rattle.std.specs.Prelude.{Option, None, Some, slice_get}
use Rattle.std.proofs.lemmas.Bool.{false≢true}
use Rattle.judge.specs.declared.journal.Reply.{Reply}
use Rattle.judge.specs.Answer.{Pairs}
use Rattle.crossbeam_epoch.specs.declared.fault.Fault.{Fault}
use Rattle.crossbeam_epoch.specs.declared.world.participant.Participant.{Participant}
use Rattle.congee.specs.declared.protocol.machine.Machine.{Machine}
use Rattle.congee.specs.declared.protocol.machine.Outcome.{Outcome as Moved}
use Rattle.congee.specs.declared.protocol.machine.Outcome.TheVariants as moved
use Rattle.congee.specs.declared.protocol.op.Op.{Op as Point}
use Rattle.congee.specs.declared.protocol.op.Op.TheVariants as point
use Rattle.congee.specs.declared.protocol.phase.Kind.{Kind}
use Rattle.congee.specs.declared.protocol.phase.Kind.TheVariants as kind
use Rattle.congee.specs.declared.protocol.phase.Phase.{Phase}
use Rattle.congee.specs.declared.protocol.phase.Phase.TheVariants.{AskOld, AskNew}
use Rattle.congee.specs.protocol.Alone.{HasAnswer, IsAnswer}
use Rattle.congee.specs.protocol.Holdings.{LockedBy}
use Rattle.congee.specs.protocol.Play.{Flight, Pending, Decided, Over, Unbegun, Scanning, Question, Undecided, Concludes, ScanTells, Follows, begun, parts, flight, flight_in, value_answered, resolved}
use Rattle.congee.specs.protocol.State.{is_asking}
use Rattle.joint.specs.declared.engine.in_flight.InFlight.{InFlight}
use Rattle.joint.specs.declared.engine.in_flight.InFlight.TheVariants.{Idle, Collecting, Reserving, Securing, Walking}
use Rattle.joint.specs.declared.id.Id.{Id}
use Rattle.joint.specs.declared.steps.Event.{Event}
use Rattle.joint.specs.declared.steps.Event.TheVariants.{Begin, Go}
use Rattle.joint.specs.declared.steps.Op.{Op}
use Rattle.joint.specs.declared.steps.Op.TheVariants as op
use Rattle.joint.specs.declared.steps.Outcome.{Outcome}
use Rattle.joint.specs.declared.steps.Outcome.TheVariants.{Running, Asks, Found, Registered, Done, Refused}
use Rattle.joint.specs.declared.steps.Report.{Report}
use Rattle.joint.specs.declared.steps.Step.{Step}
use Rattle.joint.specs.declared.steps.Target.{Target}
use Rattle.joint.specs.declared.steps.Target.TheVariants as target
use Rattle.joint.specs.calls.Alone.{OthersUnlocked, AreNext, AllEndAlone}
use Rattle.joint.specs.nodes.Nodes.{nodes}
use Rattle.joint.specs.engine.Intact.{IsAt}
use Rattle.joint.specs.Names.{root}
use Rattle.joint.specs.engine.Journaling.{asks_at}
use Rattle.joint.specs.Reports.{target, told, is_in_flight}
use Rattle.joint.specs.calls.Runs.{Taken, AreTaken}
use Rattle.joint.specs.world.MapSteps.{EventMap, GoMap, PendingStep, BeginMap, BeginsOr, Line}
use Rattle.joint.specs.engine.Flying.{Flights, IsInFlight, AreInFlight}
use Rattle.joint.specs.nodes.View.{id_number}
use Rattle.joint.specs.calls.Wanted.{is_question, wants_if, IsReply, RepliesTo, AreNextTold, AllEndAloneTold, OthersIdle}
use Rattle.joint.specs.world.World.{Holds, IsStep}
use Rattle.joint.specs.engine.Engine.{World, BeginsAt, BeginsOnTree, Does, EntersUnless, engine_of, finds_none, misuse, place_of}
use Rattle.joint.proofs.lemmas.engine.Collecting.{get_inside}
use Rattle.joint.proofs.lemmas.calls.Ends.{rests}
use Rattle.joint.proofs.lemmas.engine.Entering.{begin_free}
use Rattle.joint.proofs.lemmas.world.Flights.{flight_here, eqb_same}
use Rattle.joint.proofs.lemmas.world.JournaledSteps.{step_mapped}
use Rattle.joint.proofs.lemmas.world.JournalPlaces.{asks_here}
use Rattle.joint.proofs.lemmas.world.Requested.{asks}
use Rattle.joint.proofs.lemmas.engine.Telling.{survey_ends}
use Rattle.joint.proofs.lemmas.calls.Wanted.{step_wants, of_collector}
use Rattle.joint.proofs.lemmas.calls.Rounds.{taken_front}
use Rattle.std.proofs.lemmas.Option.{slice_get_within}

module _ {V : Type 0} where
  -- a call on one key is of what was begun
  abbrev Kinded : Op V → Flight V → Type 0
  Kinded o (Pending k kd v q) = (p : Point V) × (target o ≡ target.Tree p) × ((parts p).1 ≡ kd)
  Kinded o _ = Unit {0}

  kinded : (o : Op V) (f g : Flight V) → f ≡ g → Kinded o g → Kinded o f
  kinded o f g e x = subst (λ (y : Flight V). Kinded o y) (sym e) x

  undecided_kind : (o : Op V) (k : ℕ) (kd : Kind V) (v : Option V) (q : Question V) (m : Moved V) (f : Flight V) → (p : Point V) × (target o ≡ target.Tree p) × ((parts p).1 ≡ kd) → Undecided k kd v q m f → Kinded o f
  undecided_kind o k kd v q moved.Running f x u = kinded o f (Pending k kd v u.0) u.2 x
  undecided_kind o k kd v q (moved.Asks a) f x u = kinded o f _ u.1 x
  undecided_kind o k kd v q (moved.Refused e) f x u = kinded o f Over u tt
  undecided_kind o k kd v q (moved.Done r) f x u = absurd u
  undecided_kind o k kd v q (moved.Found i a b) f x u = absurd u
  undecided_kind o k kd v q (moved.Scanned n) f x u = absurd u

  concluded_kind : (o : Op V) (r : Reply V) (m : Moved V) (f : Flight V) → Concludes r m f → Kinded o f
  concluded_kind o r moved.Running f u = kinded o f (Decided r) u tt
  concluded_kind o r (moved.Done s) f u = kinded o f Over u.1 tt
  concluded_kind o r (moved.Asks a) f u = absurd u
  concluded_kind o r (moved.Refused e) f u = absurd u
  concluded_kind o r (moved.Found i a b) f u = absurd u
  concluded_kind o r (moved.Scanned n) f u = absurd u

  scan_kind : (o : Op V) (start end size : ℕ) (states : List (Pairs V)) (places : List (ℕ × V)) (m : Moved V) (f : Flight V) → ScanTells start end size states places m f → Kinded o f
  scan_kind o start end size states places moved.Running f u = kinded o f (Scanning start end size states places) u tt
  scan_kind o start end size states places (moved.Found i a b) f u = kinded o f (Scanning start end size states _) u.1 tt
  scan_kind o start end size states places (moved.Scanned n) f u = kinded o f Over u.2 tt
  scan_kind o start end size states places (moved.Refused e) f u = kinded o f Over u tt
  scan_kind o start end size states places (moved.Asks a) f u = absurd u
  scan_kind o start end size states places (moved.Done r) f u = absurd u

  pending_kind : (o : Op V) (same : V → V → Bool) (k : ℕ) (kd : Kind V) (v : Option V) (q : Question V) (m : Pairs V) (b : Bool) (l : Line V) (f : Flight V) → (p : Point V) × (target o ≡ target.Tree p) × ((parts p).1 ≡ kd) → PendingStep same k kd v q m b l f → Kinded o f
  pending_kind o same k kd v q m false l f x (inl y) = undecided_kind o k kd v q y.outcome f x y.undecided
  pending_kind o same k kd v q m false l f x (inr y) = kinded o f Over y.over tt
  pending_kind o same k kd v q m true l f x y = concluded_kind o y.entry.reply y.outcome f y.concludes

  go_kind : (o : Op V) (same : V → V → Bool) (fs : Flights V) (f : Flight V) (m : Pairs V) (answer : Option (Option V)) (l : Line V) (fs' : Flights V) → fs l.step.worker ≡ f → Kinded o f → GoMap same fs f m answer l fs' → Kinded o (fs' l.step.worker)
  go_kind o same fs Over m answer l fs' e x y = kinded o (fs' l.step.worker) Over (ap (λ (z : Flights V). z l.step.worker) y.same_flights ∙ e) tt
  go_kind o same fs (Pending k kd v q) m answer l fs' e x y =
      kinded o (fs' l.step.worker) y.next (ap (λ (z : Flights V). z l.step.worker) y.with_next ∙ flight_here fs l.step.worker y.next) (pending_kind o same k kd (value_answered kd q answer v) (resolved kd q answer) m l.report.decided l y.next x y.step)
  go_kind o same fs (Decided r) m answer l fs' e x y =
      kinded o (fs' l.step.worker) y.next (ap (λ (z : Flights V). z l.step.worker) y.with_next ∙ flight_here fs l.step.worker y.next) (concluded_kind o r y.step.outcome y.next y.step.concludes)
  go_kind o same fs (Unbegun start end size) m answer l fs' e x y =
      kinded o (fs' l.step.worker) y.next (ap (λ (z : Flights V). z l.step.worker) y.with_next ∙ flight_here fs l.step.worker y.next) (scan_kind o start end size _ _ y.step.outcome y.next y.step.tells)
  go_kind o same fs (Scanning start end size states places) m answer l fs' e x y =
      kinded o (fs' l.step.worker) y.next (ap (λ (z : Flights V). z l.step.worker) y.with_next ∙ flight_here fs l.step.worker y.next) (scan_kind o start end size _ _ y.step.outcome y.next y.step.tells)

  begun_kind : (o : Op V) (p : Point V) → target o ≡ target.Tree p → Kinded o (flight (begun root p))
  begun_kind o (point.Range start end size) t = tt
  begun_kind o (point.RangeInclusive start last size) t = tt
  begun_kind o (point.Get k) t = (point.Get k, t, refl)
  begun_kind o (point.Insert k v) t = (point.Insert k v, t, refl)
  begun_kind o (point.Remove k) t = (point.Remove k, t, refl)
  begun_kind o (point.ComputePresent k) t = (point.ComputePresent k, t, refl)
  begun_kind o (point.ComputeInsert k) t = (point.ComputeInsert k, t, refl)
  begun_kind o (point.Exchange k a b) t = (point.Exchange k a b, t, refl)

  -- a reply is an answer to a call of the kind that was begun
  plain : (o : Op V) (kd : Kind V) (answer : Option (Option V)) → ((a : Option V) → IsAnswer kd (Some a)) → IsReply o answer → IsAnswer kd answer
  plain o kd None f r = absurd (none o r) where
    none : (o : Op V) → IsReply o None → ⊥
    none o r = r
  plain o kd (Some a) f r = f a

  inserted : (k : ℕ) (answer : Option (Option V)) → IsReply (op.ComputeInsert k) answer → IsAnswer kind.ComputeInsert answer
  inserted k None r = r
  inserted k (Some None) r = r
  inserted k (Some (Some x)) r = tt

  by_kind : (kd kd' : Kind V) (answer : Option (Option V)) → kd ≡ kd' → IsAnswer kd answer → IsAnswer kd' answer
  by_kind kd kd' answer e x = subst (λ (y : Kind V). IsAnswer y answer) e x

  is_answer : (o : Op V) (kd : Kind V) (answer : Option (Option V)) (p : Point V) → target o ≡ target.Tree p → (parts p).1 ≡ kd → IsReply o answer → IsAnswer kd answer
  is_answer (op.Get k) kd answer p t e r = let i : point.Get k ≡ p = cc in by_kind kind.Get kd answer (ap (λ (y : Point V). (parts y).1) i ∙ e) (plain (op.Get k) kind.Get answer (λ a. tt) r)
  is_answer (op.Insert k v) kd answer p t e r = let i : point.Insert k v ≡ p = cc in by_kind kind.Insert kd answer (ap (λ (y : Point V). (parts y).1) i ∙ e) (plain (op.Insert k v) kind.Insert answer (λ a. tt) r)
  is_answer (op.Remove k) kd answer p t e r = let i : point.Remove k ≡ p = cc in by_kind kind.Remove kd answer (ap (λ (y : Point V). (parts y).1) i ∙ e) (plain (op.Remove k) kind.Remove answer (λ a. tt) r)
  is_answer (op.ComputePresent k) kd answer p t e r =
      let i : point.ComputePresent k ≡ p = cc in by_kind kind.ComputePresent kd answer (ap (λ (y : Point V). (parts y).1) i ∙ e) (plain (op.ComputePresent k) kind.ComputePresent answer (λ a. tt) r)
  is_answer (op.ComputeInsert k) kd answer p t e r = let i : point.ComputeInsert k ≡ p = cc in by_kind kind.ComputeInsert kd answer (ap (λ (y : Point V). (parts y).1) i ∙ e) (inserted k answer r)
  is_answer (op.Exchange k a b) kd answer p t e r = let i : point.Exchange k a b ≡ p = cc in by_kind (kind.Exchange a) kd answer (ap (λ (y : Point V). (parts y).1) i ∙ e) (plain (op.Exchange k a b) (kind.Exchange a) answer (λ a. tt) r)
  is_answer (op.Range start end size) kd answer p t e r = let i : point.Range start end size ≡ p = cc in by_kind kind.Get kd answer (ap (λ (y : Point V). (parts y).1) i ∙ e) (plain (op.Range start end size) kind.Get answer (λ a. tt) r)
  is_answer (op.RangeInclusive start last size) kd answer p t e r = let i : point.RangeInclusive start last size ≡ p = cc in by_kind kind.Get kd answer (ap (λ (y : Point V). (parts y).1) i ∙ e) (plain (op.RangeInclusive start last size) kind.Get answer (λ a. tt) r)
  is_answer _ kd answer p t e r = absurd (cc t)

  replies : (o : Op V) (t : Outcome V) (answer : Option (Option V)) → is_question t ≡ true → RepliesTo o t answer → IsReply o answer
  replies o (Asks found) answer e r = r
  replies o _ answer e r = absurd (false≢true e)

  -- the call has its answer where it takes one
  flying : (k : InFlight V) (c : Participant (Unit {0})) (m : Machine Id V) (f : Flight V) → is_asking m.phase ≡ true → IsAt k c m → IsInFlight k m f → Follows m f
  flying Walking c m f e a i = i
  flying Idle c m f e a i = absurd (false≢true (sym (ap is_asking a.1) ∙ e))
  flying (Collecting o) c m f e a i = absurd (false≢true (sym (ap is_asking a.1) ∙ e))
  flying (Reserving o) c m f e a i = absurd (false≢true (sym (ap is_asking a.3) ∙ e))
  flying (Securing o) c m f e a i = absurd (false≢true (sym (ap is_asking a.2) ∙ e))

  asked : (o : Op V) (m : Machine Id V) (f : Flight V) (answer : Option (Option V)) → (is_asking m.phase ≡ true → IsReply o answer) → (is_asking m.phase ≡ true → Follows m f) → Kinded o f → HasAnswer m.kind m.phase answer
  asked o m f answer r fl kf = by m.phase refl where
    old : (p : Phase Id V) (q : Question V) → m.phase ≡ p → flight_in m.key m.kind m.given p ≡ Pending m.key m.kind m.given q → is_asking p ≡ true → IsAnswer m.kind answer
    old p q e g a = elim (fl (ap is_asking e ∙ a)) [
      | inl y ↦ (
          let z = subst (λ (u : Flight V). Kinded o u) (y.1 ∙ ap (flight_in m.key m.kind m.given) e ∙ g) kf in
          is_answer o m.kind answer z.0 z.1 z.2 (r (ap is_asking e ∙ a)))
      | inr y ↦ absurd (false≢true (sym (ap is_asking y.1) ∙ ap is_asking e ∙ a))
    ]

    by : (p : Phase Id V) → m.phase ≡ p → HasAnswer m.kind p answer
    by (AskOld s v) e = old (AskOld s v) _ e refl refl
    by (AskNew plan) e = old (AskNew plan) _ e refl refl
    by _ e = tt

  unasked : (o : Outcome V) → is_in_flight o ≡ false → is_question o ≡ false
  unasked (Asks found) e = absurd (false≢true (sym e))
  unasked Running e = refl
  unasked (Found i k v) e = refl
  unasked (Registered n) e = refl
  unasked (Done d) e = refl
  unasked (Refused x) e = refl

module _ {V : Type 0} (same : V → V → Bool) (always : Bool) where
  -- a begin asks nothing
  scan_quiet : (s s' : World V) (w : ℕ) (p : Point V) (r : Report V) (none : Bool) → EntersUnless none s w p r s' → is_question r.outcome ≡ false
  scan_quiet s s' w p r true y = ap (λ z. is_question z.outcome) y.report
  scan_quiet s s' w p r false y = ap (λ z. is_question z.outcome) y.report

  tree_quiet : (s s' : World V) (w : ℕ) (p : Point V) (r : Report V) → BeginsOnTree same always s w p r s' → is_question r.outcome ≡ false
  tree_quiet s s' w (point.Get k) r x = ap (λ y. is_question y.outcome) x.report
  tree_quiet s s' w (point.Range start end size) r x = scan_quiet s s' w (point.Range start end size) r (finds_none {V = V} (point.Range start end size)) x
  tree_quiet s s' w (point.RangeInclusive start last size) r x = scan_quiet s s' w (point.RangeInclusive start last size) r (finds_none {V = V} (point.RangeInclusive start last size)) x
  tree_quiet s s' w (point.Insert k v) r x = ap (λ y. is_question y.outcome) x.report
  tree_quiet s s' w (point.Remove k) r x = ap (λ y. is_question y.outcome) x.report
  tree_quiet s s' w (point.ComputePresent k) r x = ap (λ y. is_question y.outcome) x.report
  tree_quiet s s' w (point.ComputeInsert k) r x = ap (λ y. is_question y.outcome) x.report
  tree_quiet s s' w (point.Exchange k a b) r x = ap (λ y. is_question y.outcome) x.report

  begin_quiet : (s s' : World V) (w : ℕ) (t : Target V) (r : Report V) → BeginsAt same always s w t r s' → is_question r.outcome ≡ false
  begin_quiet s s' w (target.Collector c) r x = ap (λ y. is_question y.outcome) x.report ∙ of_collector V x.collector_report.outcome
  begin_quiet s s' w (target.Tree p) r x = tree_quiet s s' w p r x
  begin_quiet s s' w (target.Survey k) r x = ap (λ y. is_question y.outcome) x.report ∙ unasked x.outcome (survey_ends (nodes s.forest) k x.outcome x.tells)

  does_quiet : (s s' : World V) (w : ℕ) (o : Op V) (f : Option Fault) (r : Report V) → Does same always s w (Begin o) f r s' → is_question r.outcome ≡ false
  does_quiet s s' w o None r x = begin_quiet s s' w (target o) r x
  does_quiet s s' w o (Some f) r x = ap (λ y. is_question y.outcome) x.0

  -- steps that are told to be the call's next ones are
  next_told : (s : World V) (us : List (Taken V)) (w : ℕ) (o : Op V) (told : Outcome V) (fs : Flights V) → Holds same always s → AreInFlight s fs → asks_at (slice_get s.machines w) ≡ is_question told → Kinded o (fs w) → AreTaken same always s us → AreNextTold w o told us → AreNext w s us
  next_told s [] w o told fs h fl q k x next = tt
  next_told s (t ∷ us) w o told fs h fl q k x next =
      let y = next.0 in
      let a = step_mapped same always s t.step t.after fs h.2.pairs h x.0.holds h.2.stand fl t.report x.0 in
      let l : Line V = record { step = t.step; report = t.report; entry = a.entry; pairs = a.pairs } in
      let worker : t.step.worker ≡ w = ap (λ z. z.worker) y.step in
      let P : Event V → Type 0 = λ z. EventMap same fs h.2.pairs z l a.flights in
      let Q : ℕ → Type 0 = λ i. Kinded o (fs i) in
      let R : ℕ → Type 0 = λ i. Kinded o (a.flights i) in
      let S : Step V → Type 0 = λ z. asks_at (slice_get t.after.machines w) ≡ wants_if (asks_at (slice_get s.machines w)) (z.worker == w) z.event t.report.outcome in
      let go : GoMap same fs (fs t.step.worker) h.2.pairs y.noise.answer l a.flights = subst P (ap (λ z. z.event) y.step) a.map in
      let kind' : Kinded o (a.flights w) = subst R worker (go_kind o same fs (fs t.step.worker) h.2.pairs y.noise.answer l a.flights refl (subst Q (sym worker) k) go) in
      let asks' : asks_at (slice_get t.after.machines w) ≡ is_question t.report.outcome =
      subst S y.step (step_wants same always s t.step t.report t.after w h x.0) ∙ ap (λ b. wants_if (asks_at (slice_get s.machines w)) b (Go y.noise) t.report.outcome) (eqb_same w) in (
        record {
          noise = y.noise;
          step = y.step;
          unfailed = y.unfailed;
          answered = λ m at. asked o m (fs w) y.noise.answer (λ e. replies o told y.noise.answer (sym q ∙ ap asks_at at ∙ e) y.answered) (λ e. follows m at e) k;
        },
        next_told t.after us w o t.report.outcome a.flights x.0.holds a.in_flight asks' kind' x.1 next.1,
      )
    where
      follows : (m : Machine Id V) → slice_get s.machines w ≡ Some m → is_asking m.phase ≡ true → Follows m (fs w)
      follows m at e =
          let c = get_inside s.calls w (subst (λ i. w < i) h.0.machines (slice_get_within s.machines w m at)) in
          flying c.0 (place_of s w) m (fs w) e (h.0.each w c.0 m c.1 at) (fl.each w c.0 m c.1 at)

  accepted_kind : (o : Op V) (fs : Flights V) (m : Pairs V) (p : Point V) (told : Outcome V) (l : Line V) (fs' : Flights V) → target o ≡ target.Tree p → is_in_flight told ≡ true → BeginsOr fs m p told l fs' → Kinded o (fs' l.step.worker)
  accepted_kind o fs m p (Refused e) l fs' t on x = absurd (false≢true on)
  accepted_kind o fs m p (Done d) l fs' t on x = absurd (false≢true on)
  accepted_kind o fs m p _ l fs' t on x = kinded o (fs' l.step.worker) (flight (begun root p)) (ap (λ (z : Flights V). z l.step.worker) x.begins ∙ flight_here fs l.step.worker _) (begun_kind o p t)

  target_kind : (o : Op V) (fs : Flights V) (m : Pairs V) (t : Target V) (l : Line V) (fs' : Flights V) → target o ≡ t → fs l.step.worker ≡ Over → is_in_flight l.report.outcome ≡ true → BeginMap fs m t l fs' → Kinded o (fs' l.step.worker)
  target_kind o fs m (target.Collector c) l fs' t over on x = kinded o (fs' l.step.worker) Over (ap (λ (z : Flights V). z l.step.worker) x.same_flights ∙ over) tt
  target_kind o fs m (target.Tree p) l fs' t over on x = accepted_kind o fs m p l.report.outcome l fs' t on x
  target_kind o fs m (target.Survey k) l fs' t over on x = kinded o (fs' l.step.worker) Over (ap (λ (z : Flights V). z l.step.worker) x.stays.same_flights ∙ over) tt

  -- a begin that is accepted, and the steps after it
  first_told : (s : World V) (t : Taken V) (us : List (Taken V)) (w : ℕ) (o : Op V) → Holds same always s → IsStep same always s t.step t.report t.after → AreTaken same always t.after us → t.step ≡ record { worker = w; event = Begin o } → is_in_flight t.report.outcome ≡ true → AreNextTold w o t.report.outcome us → AreNext w t.after us
  first_told s t us w o h is x e on next =
      let P : Step V → Type 0 = λ y. IsStep same always s y t.report t.after in
      let step : Step V = record { worker = w; event = Begin o } in
      let y : IsStep same always s step t.report t.after = subst P e is in
      let fs = h.2.flights in
      let a = step_mapped same always s step t.after fs h.2.pairs h y.holds h.2.stand h.2.in_flight t.report y in
      let l : Line V = record { step = step; report = t.report; entry = a.entry; pairs = a.pairs } in
      let free = begin_free same always (engine_of s) (engine_of t.after) w (h.0, h.1) fs (record { each = h.2.in_flight.each; beyond = h.2.in_flight.beyond }) o y.does.told y.does.engine.does (sym (ap (λ z. is_in_flight z.outcome) y.does.report) ∙ on) in
      let before : asks_at (slice_get s.machines w) ≡ false = asks_here same always s w (h.0, h.1) fs h.2.in_flight ∙ ap asks free.0 in
      let told : is_question t.report.outcome ≡ false = ap (λ z. is_question z.outcome) y.does.report ∙ does_quiet (engine_of s) (engine_of t.after) w o (misuse s w (Begin o)) y.does.told y.does.engine.does in
      let now : asks_at (slice_get t.after.machines w) ≡ is_question t.report.outcome =
      step_wants same always s step t.report t.after w h y ∙ stays (w == w) (asks_at (slice_get s.machines w)) t.report.outcome ∙ before ∙ sym told in
      next_told t.after us w o t.report.outcome a.flights y.holds a.in_flight now (target_kind o fs h.2.pairs (target o) l a.flights refl free.0 on a.map) x next
    where
      stays : (b c : Bool) (r : Outcome V) → wants_if c b (Begin o) r ≡ c
      stays true c r = refl
      stays false c r = refl

  -- where each call that is taken alone ends, it ends so too by the steps that its worker was told to take
  pub all_told : (s : World V) (ts : List (Taken V)) → Holds same always s → AreTaken same always s ts → AllEndAlone s ts → AllEndAloneTold s ts
  all_told s [] h x all = tt
  all_told s (t ∷ ts) h x all = (
    (λ w n o e free next on. all.0 w n o e free (first_told s t (take n ts) w o h x.0 (taken_front same always t.after n ts x.1) e on.0 next) on),
    all_told t.after ts x.0.holds x.1 all.1,
  )

  -- where no other worker has a call in flight, none holds a lock
  pub idle_unlocked : (s : World V) (w : ℕ) → Holds same always s → OthersIdle s w → OthersUnlocked s w
  idle_unlocked s w h idle j n m ne at x = let P : Phase Id V → Type 0 = λ p. LockedBy id_number p n in subst P (rests same always s j h (idle j ne) m at) x
