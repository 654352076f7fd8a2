-- A whole call that is taken alone ends, or wants its closure's answer.
use Rattle.std.proofs.Common.{◌≡◌, ◌<◌, ◌≤◌, ℕ, zero, suc, arith, Bool, true, false, List, [], ◌∷◌, length, refl, sym, ◌∙◌, ap, subst, inl, inr}
use Rattle.std.specs.Prelude.{Option, None, Some, map, option_map, replicate, slice_get}
use Rattle.std.proofs.lemmas.Bool.{cases_Bool, cases_lt, false≢true}
use Rattle.std.proofs.lemmas.List.{length-map}
use Rattle.judge.specs.declared.journal.Reply.{Reply}
use Rattle.judge.specs.Answer.{Pairs}
use Rattle.congee.specs.declared.protocol.machine.Machine.{Machine}
use Rattle.congee.specs.declared.protocol.machine.Outcome.{Outcome as Moved}
use Rattle.congee.specs.declared.protocol.machine.Outcome.TheVariants as moved
use Rattle.congee.specs.declared.protocol.op.Op.{Op as Point}
use Rattle.congee.specs.declared.protocol.phase.Kind.{Kind}
use Rattle.congee.specs.declared.protocol.phase.Phase.{Phase}
use Rattle.congee.specs.declared.protocol.phase.Phase.TheVariants.{AskOld, AskNew}
use Rattle.congee.specs.protocol.Alone.{HasAnswer}
use Rattle.congee.specs.protocol.Play.{Flight, Pending, Decided, Over, Unbegun, Scanning, Question, Unasked, Asked, Replied, Carries, Undecided, Concludes, ScanTells}
use Rattle.congee.specs.protocol.State.{is_asking}
use Rattle.joint.specs.declared.id.Id.{Id}
use Rattle.joint.specs.declared.steps.Event.TheVariants.{Begin}
use Rattle.joint.specs.declared.steps.Op.{Op}
use Rattle.joint.specs.declared.steps.Op.TheVariants.{Pin, Unpin, Repin, Flush, Release, Range, RangeInclusive, Keys, IsEmpty, Stats}
use Rattle.joint.specs.declared.steps.Outcome.{Outcome}
use Rattle.joint.specs.declared.steps.Outcome.TheVariants.{Running, Asks, Found, Registered, Done, Refused}
use Rattle.joint.specs.declared.steps.Report.{Report}
use Rattle.joint.specs.declared.steps.Step.{Step}
use Rattle.joint.specs.declared.steps.Target.{Target}
use Rattle.joint.specs.declared.steps.Target.TheVariants as target
use Rattle.joint.specs.calls.Alone.{OthersUnlocked, AreNext, AllInFlight, steps_alone, CallEndsAlone}
use Rattle.joint.specs.calls.Calling.{next_step, steps_of, GoOn, last_of, last_or, kept_report, IsCalled}
use Rattle.joint.specs.Reports.{goes_unasked, target, told, is_in_flight}
use Rattle.joint.specs.engine.Journaling.{asks_at}
use Rattle.joint.specs.calls.Runs.{Taken, AreTaken}
use Rattle.joint.specs.world.MapSteps.{GoMap, PendingStep, BeginMap, BeginsOr, Line}
use Rattle.joint.specs.engine.Flying.{Flights}
use Rattle.joint.specs.world.World.{Holds, IsStep}
use Rattle.joint.specs.engine.Engine.{World, engine_of}
use Rattle.joint.proofs.lemmas.engine.Entering.{begin_free}
use Rattle.joint.proofs.lemmas.world.Flights.{flight_here}
use Rattle.joint.proofs.lemmas.world.JournaledSteps.{step_mapped}
use Rattle.joint.proofs.lemmas.world.JournalPlaces.{asks_here, begun_asks}
use Rattle.joint.proofs.lemmas.world.Requested.{asks, is_asked}
use Rattle.joint.proofs.lemmas.calls.Calling.{going, away_goes}

module _ {V : Type 0} where
  -- a call that goes on without a question has none open
  quiet_undecided : (k : ℕ) (kd : Kind V) (v : Option V) (q : Question V) (o : Moved V) (f : Flight V) → goes_unasked {V = V} (told o) ≡ true → Undecided k kd v q o f → asks f ≡ false
  quiet_undecided k kd v q moved.Running f g u = ap asks u.2 ∙ carried u.0 u.1
    where
      carried : (p : Question V) → Carries q p → is_asked p ≡ false
      carried Unasked c = refl
      carried (Asked x) c = absurd c
      carried (Replied x) c = refl
  quiet_undecided k kd v q (moved.Asks x) f g u = absurd (cc g)
  quiet_undecided k kd v q (moved.Done r) f g u = absurd u
  quiet_undecided k kd v q (moved.Refused e) f g u = absurd (cc g)
  quiet_undecided k kd v q (moved.Found place key x) f g u = absurd u
  quiet_undecided k kd v q (moved.Scanned count) f g u = absurd u

  quiet_concluded : (r : Reply V) (o : Moved V) (f : Flight V) → Concludes r o f → asks f ≡ false
  quiet_concluded r moved.Running f u = ap asks u
  quiet_concluded r (moved.Asks x) f u = absurd u
  quiet_concluded r (moved.Done s) f u = ap asks u.1
  quiet_concluded r (moved.Refused e) f u = absurd u
  quiet_concluded r (moved.Found place key x) f u = absurd u
  quiet_concluded r (moved.Scanned count) f u = absurd u

  quiet_scan : (start end size : ℕ) (states : List (Pairs V)) (places : List (ℕ × V)) (o : Moved V) (f : Flight V) → ScanTells start end size states places o f → asks f ≡ false
  quiet_scan start end size states places moved.Running f u = ap asks u
  quiet_scan start end size states places (moved.Asks x) f u = absurd u
  quiet_scan start end size states places (moved.Done s) f u = absurd u
  quiet_scan start end size states places (moved.Refused e) f u = ap asks u
  quiet_scan start end size states places (moved.Found place key x) f u = ap asks u.1
  quiet_scan start end size states places (moved.Scanned count) f u = ap asks u.2

  quiet_pending : (same : V → V → Bool) (k : ℕ) (kd : Kind V) (v : Option V) (q : Question V) (m : Pairs V) (b : Bool) (l : Line V) (f : Flight V) → goes_unasked l.report.outcome ≡ true → PendingStep same k kd v q m b l f → asks f ≡ false
  quiet_pending same k kd v q m false l f g (inl x) = quiet_undecided k kd v q x.outcome f (sym (ap goes_unasked x.told_so) ∙ g) x.undecided
  quiet_pending same k kd v q m false l f g (inr x) = ap asks x.over
  quiet_pending same k kd v q m true l f g x = quiet_concluded x.entry.reply x.outcome f x.concludes

  quiet_go : (same : V → V → Bool) (fs : Flights V) (f : Flight V) (m : Pairs V) (answer : Option (Option V)) (l : Line V) (fs' : Flights V) → fs l.step.worker ≡ f → goes_unasked l.report.outcome ≡ true → GoMap same fs f m answer l fs' → asks (fs' l.step.worker) ≡ false
  quiet_go same fs Over m answer l fs' e g x = ap asks (ap (λ (y : Flights V). y l.step.worker) x.same_flights ∙ e)
  quiet_go same fs (Pending k kd v q) m answer l fs' e g x = ap asks (ap (λ (y : Flights V). y l.step.worker) x.with_next ∙ flight_here fs l.step.worker x.next) ∙ quiet_pending same k kd _ _ m l.report.decided l x.next g x.step
  quiet_go same fs (Decided r) m answer l fs' e g x = ap asks (ap (λ (y : Flights V). y l.step.worker) x.with_next ∙ flight_here fs l.step.worker x.next) ∙ quiet_concluded r x.step.outcome x.next x.step.concludes
  quiet_go same fs (Unbegun start end size) m answer l fs' e g x = ap asks (ap (λ (y : Flights V). y l.step.worker) x.with_next ∙ flight_here fs l.step.worker x.next) ∙ quiet_scan start end size _ _ x.step.outcome x.next x.step.tells
  quiet_go same fs (Scanning start end size states places) m answer l fs' e g x = ap asks (ap (λ (y : Flights V). y l.step.worker) x.with_next ∙ flight_here fs l.step.worker x.next) ∙ quiet_scan start end size _ _ x.step.outcome x.next x.step.tells

  -- and one that begins asks nothing yet
  quiet_begins : (fs : Flights V) (m : Pairs V) (p : Point V) (o : Outcome V) (l : Line V) (fs' : Flights V) → l.report.outcome ≡ o → goes_unasked l.report.outcome ≡ true → BeginsOr fs m p o l fs' → asks (fs' l.step.worker) ≡ false
  quiet_begins fs m p (Refused e) l fs' q g x = absurd (false≢true (sym (ap goes_unasked q) ∙ g))
  quiet_begins fs m p (Done d) l fs' q g x = absurd (false≢true (sym (ap goes_unasked q) ∙ g))
  quiet_begins fs m p Running l fs' q g x = ap asks (ap (λ (y : Flights V). y l.step.worker) x.begins ∙ flight_here fs l.step.worker _) ∙ begun_asks p
  quiet_begins fs m p (Asks y) l fs' q g x = absurd (false≢true (sym (ap goes_unasked q) ∙ g))
  quiet_begins fs m p (Found a b c) l fs' q g x = ap asks (ap (λ (y : Flights V). y l.step.worker) x.begins ∙ flight_here fs l.step.worker _) ∙ begun_asks p
  quiet_begins fs m p (Registered n) l fs' q g x = absurd (false≢true (sym (ap goes_unasked q) ∙ g))

  quiet_target : (fs : Flights V) (m : Pairs V) (t : Target V) (l : Line V) (fs' : Flights V) → fs l.step.worker ≡ Over → goes_unasked l.report.outcome ≡ true → BeginMap fs m t l fs' → asks (fs' l.step.worker) ≡ false
  quiet_target fs m (target.Collector c) l fs' e g x = ap asks (ap (λ (y : Flights V). y l.step.worker) x.same_flights ∙ e)
  quiet_target fs m (target.Tree p) l fs' e g x = quiet_begins fs m p l.report.outcome l fs' refl g x
  quiet_target fs m (target.Survey k) l fs' e g x = ap asks (ap (λ (y : Flights V). y l.step.worker) x.stays.same_flights ∙ e)

  -- a phase that asks nothing wants no answer
  none_wanted : (kd : Kind V) (x : Phase Id V) → is_asking x ≡ false → HasAnswer kd x None
  none_wanted kd (AskOld s v) e = absurd (cc e)
  none_wanted kd (AskNew plan) e = absurd (cc e)
  none_wanted kd _ e = tt

  -- each report says that the call goes on
  abbrev AllGoOn : List (Taken V) → Type 0
  AllGoOn [] = Unit {0}
  AllGoOn (t ∷ ts) = (goes_unasked t.report.outcome ≡ true) × AllGoOn ts

  all_go_on : (t : Taken V) (ts : List (Taken V)) → GoOn (map (λ (x : Taken V). x.report) (t ∷ ts)) → goes_unasked (last_or t.report (map (λ (x : Taken V). x.report) ts)).outcome ≡ true → AllGoOn (t ∷ ts)
  all_go_on t [] g l = (l, tt)
  all_go_on t (u ∷ ts) g l = (g.0, all_go_on u ts g.1 l)

  in_flight : (ts : List (Taken V)) → AllGoOn ts → AllInFlight ts
  in_flight [] g = tt
  in_flight (t ∷ ts) g = (going t.report.outcome g.0, in_flight ts g.1)

module _ {V : Type 0} (same : V → V → Bool) (always : Bool) where
  -- after a step of its own a call that goes on wants no answer
  quiet_on : (s : World V) (t : Taken V) (w : ℕ) → Holds same always s → IsStep same always s t.step t.report t.after → (t.step ≡ next_step w) → goes_unasked t.report.outcome ≡ true → asks_at (slice_get t.after.machines w) ≡ false
  quiet_on s t w h x e g =
      let P : Step V → Type 0 = λ y. IsStep same always s y t.report t.after in
      let y : IsStep same always s (next_step w) t.report t.after = subst P e x in
      let a = step_mapped same always s (next_step w) t.after h.2.flights h.2.pairs h y.holds h.2.stand h.2.in_flight t.report y in
      asks_here same always t.after w (y.holds.0, y.holds.1) a.flights a.in_flight ∙ quiet_go same h.2.flights (h.2.flights w) h.2.pairs None (record { step = next_step w; report = t.report; entry = a.entry; pairs = a.pairs }) a.flights refl g a.map

  quiet_first : (s : World V) (t : Taken V) (w : ℕ) (o : Op V) → Holds same always s → IsStep same always s t.step t.report t.after → t.step ≡ record { worker = w; event = Begin o } → is_in_flight t.report.outcome ≡ true → goes_unasked t.report.outcome ≡ true → asks_at (slice_get t.after.machines w) ≡ false
  quiet_first s t w o h x e on g =
      let P : Step V → Type 0 = λ y. IsStep same always s y t.report t.after in
      let y : IsStep same always s (record { worker = w; event = Begin o }) t.report t.after = subst P e x in
      let a = step_mapped same always s (record { worker = w; event = Begin o }) t.after h.2.flights h.2.pairs h y.holds h.2.stand h.2.in_flight t.report y in
      let free = begin_free same always (engine_of s) (engine_of t.after) w (h.0, h.1) h.2.flights (record { each = h.2.in_flight.each; beyond = h.2.in_flight.beyond }) o y.does.told y.does.engine.does (sym (ap (λ z. is_in_flight z.outcome) y.does.report) ∙ on) in
      asks_here same always t.after w (y.holds.0, y.holds.1) a.flights a.in_flight
      ∙ quiet_target h.2.flights h.2.pairs (target o) (record { step = record { worker = w; event = Begin o }; report = t.report; entry = a.entry; pairs = a.pairs }) a.flights free.0 g a.map

  none_at : (s : World V) (w : ℕ) → asks_at (slice_get s.machines w) ≡ false → (m : Machine Id V) → slice_get s.machines w ≡ Some m → HasAnswer m.kind m.phase None
  none_at s w e m at = none_wanted m.kind m.phase (sym (ap asks_at at) ∙ e)

  are_next : (s : World V) (w n : ℕ) (ts : List (Taken V)) → Holds same always s → AreTaken same always s ts → map (λ (t : Taken V). t.step) ts ≡ replicate n (next_step w) → AllGoOn ts → asks_at (slice_get s.machines w) ≡ false → AreNext w s ts
  are_next s w n [] h x e g q = tt
  are_next s w zero (t ∷ ts) h x e g q = absurd (cc e)
  are_next s w (suc n) (t ∷ ts) h x e g q =
      let is : t.step ≡ next_step w = cc in
      let more : map (λ (y : Taken V). y.step) ts ≡ replicate n (next_step w) = cc in (
        record { noise = record { fail = false; seen = None; answer = None }; step = is; unfailed = refl; answered = none_at s w q },
        are_next t.after w n ts x.0.holds x.1 more g.1 (quiet_on s t w h x.0 is g.0),
      )

  no_call : (s : World V) (o : Op V) → 0 < steps_alone s o
  no_call s Pin = omega arith
  no_call s Unpin = omega arith
  no_call s Repin = omega arith
  no_call s Flush = omega arith
  no_call s Release = omega arith
  no_call s (Range start end size) = omega arith
  no_call s (RangeInclusive start last size) = omega arith
  no_call s Keys = omega arith
  no_call s IsEmpty = omega arith
  no_call s Stats = omega arith
  no_call s _ = omega arith

  -- the law of whole runs
  module _ (ends : (s : World V) (t : Taken V) (ts : List (Taken V)) (w : ℕ) (o : Op V) → Holds same always s → AreTaken same always s (t ∷ ts) → t.step ≡ record { worker = w; event = Begin o } → OthersUnlocked s w → AreNext w t.after ts → AllInFlight (t ∷ ts) → length (t ∷ ts) < steps_alone s o) where
    stops : (s : World V) (w : ℕ) (o : Op V) (most : ℕ) (ts : List (Taken V)) (reports : List (Report V)) (r : Report V) → Holds same always s → AreTaken same always s ts → map (λ (t : Taken V). t.report) ts ≡ reports → map (λ (t : Taken V). t.step) ts ≡ steps_of w o (length reports)
        → GoOn reports → option_map kept_report (last_of reports) ≡ Some r → OthersUnlocked s w → steps_alone s o ≤ most → most ≤ length reports → goes_unasked r.outcome ≡ true → ⊥
    stops s w o most [] reports r h x er es g l free le long on =
        let n : 0 ≡ length reports = ap length er in
        let p = no_call s o in omega (arith, n, p, le, long)
    stops s w o most (t ∷ ts) reports r h x er es g l free le long on =
        let qs : List (Report V) = map (λ (y : Taken V). y.report) ts in
        let steps : map (λ (y : Taken V). y.step) (t ∷ ts) ≡ steps_of w o (length (t.report ∷ qs)) = subst (λ ys. map (λ (y : Taken V). y.step) (t ∷ ts) ≡ steps_of w o (length ys)) (sym er) es in
        let first : t.step ≡ record { worker = w; event = Begin o } = cc in
        let more : map (λ (y : Taken V). y.step) ts ≡ replicate (length qs) (next_step w) = cc in
        let go : GoOn (t.report ∷ qs) = subst (λ ys. GoOn ys) (sym er) g in
        let last : option_map kept_report (last_of (t.report ∷ qs)) ≡ Some r = ap (λ ys. option_map kept_report (last_of ys)) er ∙ l in
        let kept : kept_report (last_or t.report qs) ≡ r = cc in
        let goes : goes_unasked (last_or t.report qs).outcome ≡ true = sym (away_goes (last_or t.report qs).outcome) ∙ (ap (λ y. goes_unasked y.outcome) kept ∙ on) in
        let all = all_go_on t ts go goes in
        let flying = in_flight (t ∷ ts) all in
        let next = are_next t.after w (length qs) ts x.0.holds x.1 more all.1 (quiet_first s t w o h x.0 first flying.0 all.0) in
        let short = ends s t ts w o h x first free next flying in
        let n : length (t.report ∷ qs) ≡ length reports = ap length er in
        let m : length qs ≡ length ts = length-map ts (λ (y : Taken V). y.report) in
        omega (arith, short, n, m, le, long)

    -- a whole call that is given that many steps while no other holds a lock ends, or wants an answer
    pub call_ends : (s : World V) (w : ℕ) (o : Op V) (most : ℕ) (places : List (ℕ × V)) (result : Option (Report V)) (places' : List (ℕ × V)) (s' : World V) → Holds same always s → IsCalled same always s w o most places result places' s' → CallEndsAlone s w o most result
    call_ends s w o most places result places' s' h x free le r is = elim (cases_lt (length x.reports) most) [
      | inl l ↦ x.stops r is l
      | inr l ↦ elim (cases_Bool (goes_unasked r.outcome)) [
        | inl e ↦ absurd (stops s w o most x.run.taken x.reports r h x.run.each x.run.reports_are x.run.steps_are x.goes (x.last ∙ is) free le l e)
        | inr e ↦ e
      ]
    ]
