-- A call on one key that is done was answered by its deciding step.
use Rattle.std.proofs.Common.{◌≡◌, ◌≢◌, ◌==◌, ℕ, Bool, true, false, List, [], ◌∷◌, refl, sym, ◌∙◌, ap, subst, inl, inr}
use Rattle.std.specs.Prelude.{Option, None, ◌&&◌}
use Rattle.std.proofs.lemmas.Bool.{eqb-true, eqb-false, false≢true}
use Rattle.judge.specs.declared.journal.Reply.{Reply}
use Rattle.judge.specs.Answer.{Pairs}
use Rattle.congee.specs.declared.protocol.machine.Noise.{Noise}
use Rattle.congee.specs.declared.protocol.machine.Outcome.{Outcome as Moved}
use Rattle.congee.specs.declared.protocol.machine.Outcome.TheVariants as moved
use Rattle.congee.specs.declared.protocol.op.Op.{Op as Point}
use Rattle.congee.specs.declared.protocol.phase.Kind.{Kind}
use Rattle.congee.specs.protocol.Play.{Flight, Pending, Decided, Over, Unbegun, Scanning, Question, Unasked, Undecided, Concludes, value_answered, resolved, begun, flight, parts}
use Rattle.joint.specs.declared.id.Id.{Id}
use Rattle.joint.specs.declared.steps.Event.{Event}
use Rattle.joint.specs.declared.steps.Event.TheVariants.{Register, Begin, Go}
use Rattle.joint.specs.declared.steps.Outcome.{Outcome}
use Rattle.joint.specs.declared.steps.Outcome.TheVariants.{Done, Refused}
use Rattle.joint.specs.declared.steps.Target.{Target}
use Rattle.joint.specs.declared.steps.Target.TheVariants as target
use Rattle.joint.specs.calls.Answering.{Either, GoesOrAnswers, GoesOrRefused, Answers, TakesEffectAt, Decides, AllDecide}
use Rattle.joint.specs.calls.Scans.{is_go}
use Rattle.joint.specs.Names.{root}
use Rattle.joint.specs.Reports.{target, told, is_in_flight}
use Rattle.joint.specs.calls.Runs.{IsMapRun}
use Rattle.joint.specs.world.MapSteps.{EventMap, GoMap, PendingStep, BeginMap, BeginsOr, Line}
use Rattle.joint.specs.engine.Flying.{Flights, with_flight}
use Rattle.joint.proofs.lemmas.world.Flights.{ends_stays, flight_here, flight_apart, begins_pending}
use Rattle.congee.proofs.Laws.{both_true}

either_by : (b : Bool) (A B : Type 0) → (b ≡ true → A) → (b ≡ false → B) → Either b A B
either_by true A B f g = f refl
either_by false A B f g = g refl

module _ {V : Type 0} (same : V → V → Bool) where
  -- a step that is none of the call's further ones leaves it as it is watched
  begins_keep : (fs : Flights V) (m : Pairs V) (p : Point V) (o : Outcome V) (l : Line V) (fs' : Flights V) (w : ℕ) → (fs w ≡ Over → ⊥) → BeginsOr fs m p o l fs' → fs' w ≡ fs w
  begins_keep fs m p (Refused e) l fs' w n x = ap (λ (y : Flights V). y w) x.same_flights
  begins_keep fs m p (Done d) l fs' w n x = ap (λ (y : Flights V). y w) (ends_stays fs m p d l fs' x).same_flights
  begins_keep fs m p _ l fs' w n x = ap (λ (y : Flights V). y w) x.begins ∙ flight_apart fs l.step.worker w _ (λ e. n (ap fs e ∙ x.free))

  target_keeps : (fs : Flights V) (m : Pairs V) (t : Target V) (l : Line V) (fs' : Flights V) (w : ℕ) → (fs w ≡ Over → ⊥) → BeginMap fs m t l fs' → fs' w ≡ fs w
  target_keeps fs m (target.Collector c) l fs' w n x = ap (λ (y : Flights V). y w) x.same_flights
  target_keeps fs m (target.Tree p) l fs' w n x = begins_keep fs m p l.report.outcome l fs' w n x
  target_keeps fs m (target.Survey k) l fs' w n x = ap (λ (y : Flights V). y w) x.stays.same_flights

  goes_keep : (fs : Flights V) (f : Flight V) (m : Pairs V) (answer : Option (Option V)) (l : Line V) (fs' : Flights V) (w : ℕ) → w ≢ l.step.worker → GoMap same fs f m answer l fs' → fs' w ≡ fs w
  goes_keep fs Over m answer l fs' w n x = ap (λ (y : Flights V). y w) x.same_flights
  goes_keep fs (Pending k kd v q) m answer l fs' w n x = ap (λ (y : Flights V). y w) x.with_next ∙ flight_apart fs l.step.worker w x.next n
  goes_keep fs (Decided r) m answer l fs' w n x = ap (λ (y : Flights V). y w) x.with_next ∙ flight_apart fs l.step.worker w x.next n
  goes_keep fs (Unbegun start end size) m answer l fs' w n x = ap (λ (y : Flights V). y w) x.with_next ∙ flight_apart fs l.step.worker w x.next n
  goes_keep fs (Scanning start end size states places) m answer l fs' w n x = ap (λ (y : Flights V). y w) x.with_next ∙ flight_apart fs l.step.worker w x.next n

  and_false : (a : Bool) → (a && true) ≡ false → a ≡ false
  and_false false e = refl
  and_false true e = e

  keeps : (fs : Flights V) (m : Pairs V) (event : Event V) (l : Line V) (fs' : Flights V) (w : ℕ) → (fs w ≡ Over → ⊥) → ((l.step.worker == w) && is_go event) ≡ false → EventMap same fs m event l fs' → fs' w ≡ fs w
  keeps fs m Register l fs' w n b x = ap (λ (y : Flights V). y w) x.same_flights
  keeps fs m (Begin op) l fs' w n b x = target_keeps fs m (target op) l fs' w n x
  keeps fs m (Go noise) l fs' w n b x = goes_keep fs (fs l.step.worker) m noise.answer l fs' w (λ e. eqb-false l.step.worker w (and_false (l.step.worker == w) b) (sym e)) x

  -- one that is takes the step of its flight
  goes_at : (fs : Flights V) (m : Pairs V) (event : Event V) (l : Line V) (fs' : Flights V) (w : ℕ) (f : Flight V) → fs w ≡ f → ((l.step.worker == w) && is_go event) ≡ true → EventMap same fs m event l fs' → (l.step.worker ≡ w) × ((noise : Noise Id V) × GoMap same fs f m noise.answer l fs')
  goes_at fs m Register l fs' w f e b x = absurd (false≢true (both_true (l.step.worker == w) false b).1)
  goes_at fs m (Begin op) l fs' w f e b x = absurd (false≢true (both_true (l.step.worker == w) false b).1)
  goes_at fs m (Go noise) l fs' w f e b x =
      let q : l.step.worker ≡ w = eqb-true l.step.worker w (both_true (l.step.worker == w) true b).0 in
      let P : Flight V → Type 0 = λ y. GoMap same fs y m noise.answer l fs' in
      (q, (noise, subst P (ap fs q ∙ e) x))

  decided_not : (f : Flight V) (r : Reply V) → f ≡ Decided r → f ≡ Over → ⊥
  decided_not f r e q = let z : Decided r ≡ Over = sym e ∙ q in cc

  pending_not : (f : Flight V) (k : ℕ) (kd : Kind V) (v : Option V) (u : Question V) → f ≡ Pending k kd v u → f ≡ Over → ⊥
  pending_not f k kd v u e q = let z : Pending k kd v u ≡ Over = sym e ∙ q in cc

  concludes_on : (r : Reply V) (o : Moved V) (f : Flight V) (Rest : Type 0) → (f ≡ Decided r → Rest) → Concludes r o f → GoesOrAnswers r (told o) Rest
  concludes_on r moved.Running f Rest g x = g x
  concludes_on r (moved.Done s) f Rest g x = x.0
  concludes_on r (moved.Asks a) f Rest g x = absurd x
  concludes_on r (moved.Refused e) f Rest g x = absurd x
  concludes_on r (moved.Found i k v) f Rest g x = absurd x
  concludes_on r (moved.Scanned n) f Rest g x = absurd x

  next_here : (fs fs' : Flights V) (w u : ℕ) (f : Flight V) → u ≡ w → fs' ≡ with_flight fs u f → fs' w ≡ f
  next_here fs fs' w u f q e = let P : ℕ → Type 0 = λ j. fs' j ≡ f in subst P q (ap (λ (y : Flights V). y u) e ∙ flight_here fs u f)

  -- a call that took effect decides no more, and is done with that reply if it is done
  pub answers : (w : ℕ) (r : Reply V) (fs : Flights V) (m : Pairs V) (ls : List (Line V)) (fs' : Flights V) → fs w ≡ Decided r → IsMapRun same fs m ls fs' → Answers w r ls
  answers w r fs m [] fs' e x = tt
  answers w r fs m (l ∷ ls) fs' e x = either_by ((l.step.worker == w) && is_go l.step.event) _ _
      (λ b.
      let g = goes_at fs m l.step.event l x.0 w (Decided r) e b x.1 in
      let y = g.1.1 in
      let P : Outcome V → Type 0 = λ o. GoesOrAnswers r o (Answers w r ls) in (
        record { undecided = y.step.undecided; no_entry = y.step.no_entry },
        subst P (sym y.step.told_so) (concludes_on r y.step.outcome y.next (Answers w r ls) (λ q. answers w r x.0 l.pairs ls fs' (next_here fs x.0 w l.step.worker y.next g.0 y.with_next ∙ q) x.2) y.step.concludes),
      ))
      (λ b. answers w r x.0 l.pairs ls fs' (keeps fs m l.step.event l x.0 w (decided_not (fs w) r e) b x.1 ∙ e) x.2)

  undecided_on : (k : ℕ) (kd : Kind V) (v : Option V) (q : Question V) (o : Moved V) (f : Flight V) (Rest : Type 0) → ((u : Question V) → f ≡ Pending k kd v u → Rest) → Undecided k kd v q o f → GoesOrRefused (told o) Rest
  undecided_on k kd v q moved.Running f Rest g x = g x.0 x.2
  undecided_on k kd v q (moved.Asks a) f Rest g x = g _ x.1
  undecided_on k kd v q (moved.Refused e) f Rest g x = tt
  undecided_on k kd v q (moved.Done r) f Rest g x = absurd x
  undecided_on k kd v q (moved.Found i y z) f Rest g x = absurd x
  undecided_on k kd v q (moved.Scanned n) f Rest g x = absurd x

  -- a call on one key takes effect in one step at most, with its entry, and is done with the reply of that
  pub decides : (w : ℕ) (k : ℕ) (kd : Kind V) (v : Option V) (u : Question V) (fs : Flights V) (m : Pairs V) (ls : List (Line V)) (fs' : Flights V) → fs w ≡ Pending k kd v u → IsMapRun same fs m ls fs' → Decides w ls
  decides w k kd v u fs m [] fs' e x = tt
  decides w k kd v u fs m (l ∷ ls) fs' e x = either_by ((l.step.worker == w) && is_go l.step.event) _ _
      (λ b.
      let g = goes_at fs m l.step.event l x.0 w (Pending k kd v u) e b x.1 in
      let y = g.1.1 in
      pending_on k kd (value_answered kd u g.1.0.answer v) (resolved kd u g.1.0.answer) w m l ls y.next l.report.decided g.0
      (λ a z q. decides w k kd a z x.0 l.pairs ls fs' (next_here fs x.0 w l.step.worker y.next g.0 y.with_next ∙ q) x.2)
      (λ r q. answers w r x.0 l.pairs ls fs' (next_here fs x.0 w l.step.worker y.next g.0 y.with_next ∙ q) x.2)
      y.step)
      (λ b. decides w k kd v u x.0 l.pairs ls fs' (keeps fs m l.step.event l x.0 w (pending_not (fs w) k kd v u e) b x.1 ∙ e) x.2)
    where
      pending_on : (k : ℕ) (kd : Kind V) (v : Option V) (q : Question V) (w : ℕ) (m : Pairs V) (l : Line V) (ls : List (Line V)) (f : Flight V) (d : Bool) → l.step.worker ≡ w → ((a : Option V) (z : Question V) → f ≡ Pending k kd a z → Decides w ls) → ((r : Reply V) → f ≡ Decided r → Answers w r ls)
          → PendingStep same k kd v q m d l f → Either d (TakesEffectAt w l ls) ((l.entry ≡ None) × GoesOrRefused l.report.outcome (Decides w ls))
      pending_on k kd v q w m l ls f false is on after (inl x) =
          let P : Outcome V → Type 0 = λ o. GoesOrRefused o (Decides w ls) in
          (x.no_entry, subst P (sym x.told_so) (undecided_on k kd v q x.outcome f (Decides w ls) (λ z e. on v z e) x.undecided))
      pending_on k kd v q w m l ls f false is on after (inr x) =
          let P : Outcome V → Type 0 = λ o. GoesOrRefused o (Decides w ls) in
          (x.no_entry, subst P (sym x.full) tt)
      pending_on k kd v q w m l ls f true is on after x =
          let P : Outcome V → Type 0 = λ o. GoesOrAnswers x.entry.reply o (Answers w x.entry.reply ls) in
          (x.entry, x.is_entry, x.worker ∙ is, subst P (sym x.told_so) (concludes_on x.entry.reply x.outcome f (Answers w x.entry.reply ls) (λ q. after x.entry.reply q) x.concludes))

  accepted : (fs : Flights V) (m : Pairs V) (p : Point V) (o : Outcome V) (l : Line V) (fs' : Flights V) → is_in_flight o ≡ true → BeginsOr fs m p o l fs' → fs' ≡ with_flight fs l.step.worker (flight (begun root p))
  accepted fs m p (Refused e) l fs' on x = absurd (false≢true on)
  accepted fs m p (Done d) l fs' on x = absurd (false≢true on)
  accepted fs m p _ l fs' on x = x.begins

  -- each call on one key that begins in a run does
  pub all_decide : (fs : Flights V) (m : Pairs V) (ls : List (Line V)) (fs' : Flights V) → IsMapRun same fs m ls fs' → AllDecide ls
  all_decide fs m [] fs' x = tt
  all_decide fs m (l ∷ ls) fs' x = (
    (λ op p e t n on.
        let P : Event V → Type 0 = λ y. EventMap same fs m y l x.0 in
        let Q : Target V → Type 0 = λ y. BeginMap fs m y l x.0 in
        let b : BeginsOr fs m p l.report.outcome l x.0 = subst Q t (subst P e x.1) in
        let here : x.0 l.step.worker ≡ flight (begun root p) = next_here fs x.0 l.step.worker l.step.worker _ refl (accepted fs m p l.report.outcome l x.0 on b) in
        decides l.step.worker (parts p).0 (parts p).1 (parts p).2 Unasked x.0 l.pairs ls fs' (here ∙ begins_pending p n) x.2),
    all_decide x.0 l.pairs ls fs' x.2,
  )
