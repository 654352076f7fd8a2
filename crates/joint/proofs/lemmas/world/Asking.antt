-- What the workers asked for agrees with their calls after a step.
use Rattle.std.proofs.Common.{◌≡◌, ◌≢◌, ◌<◌, ◌≤◌, ◌⊎◌, ◌==◌, ℕ, arith, Bool, true, false, List, [], ◌∷◌, length, refl, sym, ◌∙◌, ap, subst, inl, inr}
use Rattle.std.specs.Prelude.{Option, None, slice_get, slice_set, if◌then◌else◌}
use Rattle.std.proofs.lemmas.Bool.{cases_Bool, eqb-true, eqb-false, false≢true}
use Rattle.std.proofs.lemmas.List.{get_or-set_same, get_or-set_other}
use Rattle.judge.specs.declared.journal.Reply.{Reply}
use Rattle.judge.specs.Answer.{Pairs}
use Rattle.congee.specs.declared.protocol.machine.Noise.{Noise}
use Rattle.congee.specs.declared.protocol.machine.Outcome.{Outcome as Moved}
use Rattle.congee.specs.declared.protocol.machine.Outcome.TheVariants as moved
use Rattle.congee.specs.declared.protocol.op.Op.{Op as Point}
use Rattle.congee.specs.declared.protocol.phase.Kind.{Kind}
use Rattle.congee.specs.protocol.Play.{Flight, Pending, Decided, Over, Unbegun, Scanning, Question, value_answered, resolved, Undecided, Concludes, ScanTells, begun, flight}
use Rattle.joint.specs.declared.id.Id.{Id}
use Rattle.joint.specs.declared.engine.request.Request.{Request}
use Rattle.joint.specs.declared.steps.Event.{Event}
use Rattle.joint.specs.declared.steps.Event.TheVariants.{Register, Begin, Go}
use Rattle.joint.specs.declared.steps.Op.{Op}
use Rattle.joint.specs.declared.steps.Outcome.{Outcome}
use Rattle.joint.specs.declared.steps.Outcome.TheVariants.{Running, Asks, Found, Registered, Done, Refused}
use Rattle.joint.specs.declared.steps.Report.{Report}
use Rattle.joint.specs.declared.steps.Target.{Target}
use Rattle.joint.specs.declared.steps.Target.TheVariants as target
use Rattle.joint.specs.Names.{root}
use Rattle.joint.specs.engine.Journaling.{asks_at}
use Rattle.joint.specs.engine.Log.{asked, answered_if, request_at}
use Rattle.joint.specs.Reports.{target, told, is_in_flight}
use Rattle.joint.specs.world.MapSteps.{EventMap, GoMap, PendingStep, BeginMap, BeginsOr, Stays, Line}
use Rattle.joint.specs.engine.Flying.{Flights, AreInFlight, with_flight}
use Rattle.joint.specs.world.World.{IsAsked, requests_after}
use Rattle.joint.specs.engine.Engine.{World, EngineHolds, Does, misuse, engine_of}
use Rattle.joint.proofs.lemmas.world.Flights.{ends_stays, flight_here, flight_apart}
use Rattle.joint.proofs.lemmas.world.Requested.{TakesAnswer, asks, is_asked, answered_is, undecided_asked, begins_asked}
use Rattle.joint.proofs.lemmas.world.JournalPlaces.{asks_here}
use Rattle.joint.proofs.lemmas.engine.Entering.{begin_free}

module _ {V : Type 0} where
  concluded_asked : (o : Option (Request V)) (r : Reply V) (m : Moved V) (f' : Flight V) → Concludes r m f' → IsAsked o f'
  concluded_asked o r moved.Running f' u = subst (λ (x : Flight V). IsAsked o x) (sym u) tt
  concluded_asked o r (moved.Asks x) f' u = absurd u
  concluded_asked o r (moved.Done t) f' u = subst (λ (x : Flight V). IsAsked o x) (sym u.1) tt
  concluded_asked o r (moved.Refused c) f' u = absurd u
  concluded_asked o r (moved.Found place key x) f' u = absurd u
  concluded_asked o r (moved.Scanned count) f' u = absurd u

  scan_asked : (o : Option (Request V)) (start end size : ℕ) (states : List (Pairs V)) (places : List (ℕ × V)) (m : Moved V) (f' : Flight V) → ScanTells start end size states places m f' → IsAsked o f'
  scan_asked o start end size states places moved.Running f' u = subst (λ (x : Flight V). IsAsked o x) (sym u) tt
  scan_asked o start end size states places (moved.Asks x) f' u = absurd u
  scan_asked o start end size states places (moved.Done t) f' u = absurd u
  scan_asked o start end size states places (moved.Refused c) f' u = subst (λ (x : Flight V). IsAsked o x) (sym u) tt
  scan_asked o start end size states places (moved.Found place key x) f' u = subst (λ (y : Flight V). IsAsked o y) (sym u.1) tt
  scan_asked o start end size states places (moved.Scanned count) f' u = subst (λ (x : Flight V). IsAsked o x) (sym u.2) tt

  -- a call that hasn't taken effect and doesn't go on is over
  undecided_ends : (k : ℕ) (kd : Kind V) (v : Option V) (q : Question V) (m : Moved V) (f' : Flight V) → is_in_flight {V = V} (told m) ≡ false → Undecided k kd v q m f' → f' ≡ Over
  undecided_ends k kd v q moved.Running f' e u = absurd (cc e)
  undecided_ends k kd v q (moved.Asks x) f' e u = absurd (cc e)
  undecided_ends k kd v q (moved.Done r) f' e u = absurd u
  undecided_ends k kd v q (moved.Refused c) f' e u = u
  undecided_ends k kd v q (moved.Found place key x) f' e u = absurd u
  undecided_ends k kd v q (moved.Scanned count) f' e u = absurd u

  -- the request in a worker's place
  request_here : (qs : List (Option (Request V))) (w : ℕ) (o : Option (Request V)) → w < length qs → request_at (slice_set qs w o) w ≡ o
  request_here qs w o l = get_or-set_same qs w o None l

  request_apart : (qs : List (Option (Request V))) (w i : ℕ) (o : Option (Request V)) → i ≢ w → request_at (slice_set qs w o) i ≡ request_at qs i
  request_apart qs w i o n = get_or-set_other qs w i o None n

  -- where one worker's request and its call changed, and they agree, every worker's request agrees with its call
  pub asked_set : (qs : List (Option (Request V))) (fs : Flights V) (w : ℕ) (o : Option (Request V)) (f' : Flight V) → ((i : ℕ) → IsAsked (request_at qs i) (fs i)) → IsAsked (request_at (slice_set qs w o) w) f'
      → (fs' : Flights V) → fs' w ≡ f' → ((i : ℕ) → i ≢ w → fs' i ≡ fs i) → (i : ℕ) → IsAsked (request_at (slice_set qs w o) i) (fs' i)
  asked_set qs fs w o f' each here fs' e apart i = elim (cases_Bool (i == w)) [
    | inl b ↦ (
        let q : i ≡ w = eqb-true i w b in
        let P : ℕ → Type 0 = λ j. IsAsked (request_at (slice_set qs w o) j) (fs' j) in
        subst P (sym q) (subst (λ (x : Flight V). IsAsked (request_at (slice_set qs w o) w) x) (sym e) here))
    | inr b ↦ (
        let n : i ≢ w = λ q. eqb-false i w b q in
        let P : Option (Request V) → Type 0 = λ x. IsAsked x (fs' i) in
        subst P (sym (request_apart qs w i o n)) (subst (λ (x : Flight V). IsAsked (request_at qs i) x) (sym (apart i n)) (each i)))
  ]

module _ {V : Type 0} (same : V → V → Bool) (always : Bool) (s s' : World V) (w : ℕ) (holds : EngineHolds same always (engine_of s)) (fs : Flights V) (m : Pairs V) (fl : AreInFlight (engine_of s) fs)
    (long : length s.log.requests ≡ length s.calls) (each : (i : ℕ) → IsAsked (request_at s.log.requests i) (fs i)) where
  abbrev qs : List (Option (Request V))
  qs = s.log.requests

  abbrev Agrees : List (Option (Request V)) → Flights V → Type 0
  Agrees xs gs = (i : ℕ) → IsAsked (request_at xs i) (gs i)

  over_here : (o : Option (Request V)) → fs w ≡ Over → IsAsked o (fs w)
  over_here o e = subst (λ (x : Flight V). IsAsked o x) (sym e) tt

  -- no call on the tree begins or goes on
  stays_begin : (op : Op V) (r : Report V) (l : Line V) (fs' : Flights V) (on : Bool) → (on ≡ true → fs w ≡ Over) → Stays fs m l fs' → Agrees (if on then slice_set qs w (asked op) else qs) fs'
  stays_begin op r l fs' true over x = asked_set qs fs w (asked op) (fs w) each (over_here (request_at (slice_set qs w (asked op)) w) (over refl)) fs' (ap (λ (g : Flights V). g w) x.same_flights) (λ i n. ap (λ (g : Flights V). g i) x.same_flights)
  stays_begin op r l fs' false over x = λ i. subst (λ (g : Flights V). IsAsked (request_at qs i) (g i)) (sym x.same_flights) (each i)

  flight_begin : (op : Op V) (p : Point V) (l : Line V) (fs' : Flights V) → target op ≡ target.Tree p → w < length qs → fs' ≡ with_flight fs w (flight (begun root p)) → Agrees (slice_set qs w (asked op)) fs'
  flight_begin op p l fs' t n x =
      asked_set qs fs w (asked op) (flight (begun root p)) each (subst (λ (o : Option (Request V)). IsAsked o (flight (begun root p))) (sym (request_here qs w (asked op) n)) (begins_asked op p t)) fs'
      (ap (λ (g : Flights V). g w) x ∙ flight_here fs w (flight (begun root p))) (λ i ne. ap (λ (g : Flights V). g i) x ∙ flight_apart fs w i (flight (begun root p)) ne)

  abbrev Begun : Op V → Outcome V → Flights V → Type 0
  Begun op o fs' = Agrees (if is_in_flight o then slice_set qs w (asked op) else qs) fs'

  tree_begin : (op : Op V) (p : Point V) (r : Report V) (l : Line V) (fs' : Flights V) (o : Outcome V) → target op ≡ target.Tree p → l.step.worker ≡ w → l.report.outcome ≡ o → (is_in_flight o ≡ true → (fs w ≡ Over) × (w < length s.calls)) → BeginsOr fs m p o l fs' → Begun op o fs'
  tree_begin op p r l fs' (Refused e) t we q over x = stays_begin op r l fs' false (λ z. absurd (false≢true z)) x
  tree_begin op p r l fs' (Done d) t we q over x = stays_begin op r l fs' false (λ z. absurd (false≢true z)) (ends_stays fs m p d l fs' x)
  tree_begin op p r l fs' Running t we q over x = flight_begin op p l fs' t (subst (λ n. w < n) (sym long) (over refl).1) (x.begins ∙ ap (λ j. with_flight fs j (flight (begun root p))) we)
  tree_begin op p r l fs' (Asks a) t we q over x = absurd (let z : Asks a ≡ Running = sym q ∙ x.accepted in cc)
  tree_begin op p r l fs' (Found place key value) t we q over x = absurd (let z : Found place key value ≡ Running = sym q ∙ x.accepted in cc)
  tree_begin op p r l fs' (Registered n) t we q over x = absurd (let z : Registered n ≡ Running = sym q ∙ x.accepted in cc)

  begin_case : (op : Op V) (t : Target V) (r : Report V) (l : Line V) (fs' : Flights V) → target op ≡ t → l.step.worker ≡ w → (is_in_flight l.report.outcome ≡ true → (fs w ≡ Over) × (w < length s.calls)) → BeginMap fs m t l fs' → Begun op l.report.outcome fs'
  begin_case op (target.Collector c) r l fs' t we over x = stays_begin op r l fs' (is_in_flight l.report.outcome) (λ z. (over z).0) x
  begin_case op (target.Tree p) r l fs' t we over x = tree_begin op p r l fs' l.report.outcome t we refl over x
  begin_case op (target.Survey k) r l fs' t we over x = stays_begin op r l fs' (is_in_flight l.report.outcome) (λ z. (over z).0) x.stays

  -- a worker's call goes on
  module _ (noise : Noise Id V) (on : Bool) where
    abbrev next : Option (Request V)
    next = if on then answered_if (asks_at (slice_get s.machines w)) noise.answer (request_at qs w) else None

    gone : (fs' : Flights V) (f' : Flight V) → fs' ≡ with_flight fs w f' → IsAsked (request_at (slice_set qs w next) w) f' → Agrees (slice_set qs w next) fs'
    gone fs' f' e x = asked_set qs fs w next f' each x fs' (ap (λ (g : Flights V). g w) e ∙ flight_here fs w f') (λ i n. ap (λ (g : Flights V). g i) e ∙ flight_apart fs w i f' n)

  within : (f : Flight V) → fs w ≡ f → (f ≡ Over → ⊥) → w < length qs
  within f e n = elim (past_or_in (length s.calls) w) [
    | inl p ↦ absurd (n (sym e ∙ fl.beyond w p))
    | inr p ↦ subst (λ k. w < k) (sym long) p
  ] where
    past_or_in : (n i : ℕ) → (n ≤ i) ⊎ (i < n)
    past_or_in n i = grind arith

  -- a call that hasn't taken effect takes the step's answer, and its request then has that value
  pub pending_next : (noise : Noise Id V) (k : ℕ) (kd : Kind V) (v : Option V) (q : Question V) → fs w ≡ Pending k kd v q → TakesAnswer (answered_if (asks_at (slice_get s.machines w)) noise.answer (request_at qs w)) k kd (value_answered kd q noise.answer v) (resolved kd q noise.answer)
  pending_next noise k kd v q e =
      let a : IsAsked (request_at qs w) (Pending k kd v q) = subst (λ (x : Flight V). IsAsked (request_at qs w) x) e (each w) in
      let b : asks_at (slice_get s.machines w) ≡ is_asked q = asks_here same always (engine_of s) w holds fs fl ∙ ap asks e in
      let P : Bool → Type 0 = λ z. TakesAnswer (answered_if z noise.answer (request_at qs w)) k kd (value_answered kd q noise.answer v) (resolved kd q noise.answer) in
      let Q : Option (Request V) → Type 0 = λ o. TakesAnswer (answered_if (is_asked q) noise.answer o) k kd (value_answered kd q noise.answer v) (resolved kd q noise.answer) in
      subst P (sym b) (subst Q (sym a.1) (answered_is a.0 k kd v q noise.answer a.2 a.3))

  pending_case : (noise : Noise Id V) (k : ℕ) (kd : Kind V) (v : Option V) (q : Question V) (l : Line V) (d : Bool) (f' : Flight V) (on : Bool) → fs w ≡ Pending k kd v q → is_in_flight l.report.outcome ≡ on
      → PendingStep same k kd (value_answered kd q noise.answer v) (resolved kd q noise.answer) m d l f' → IsAsked (request_at (slice_set qs w (next noise on)) w) f'
  pending_case noise k kd v q l false f' true e o (inl x) =
      let n : w < length qs = within (Pending k kd v q) e (λ z. cc) in
      subst (λ (y : Option (Request V)). IsAsked y f') (sym (request_here qs w (next noise true) n)) (undecided_asked (next noise true) k kd (value_answered kd q noise.answer v) (resolved kd q noise.answer) x.outcome f' (pending_next noise k kd v q e) x.undecided)
  pending_case noise k kd v q l false f' false e o (inl x) =
      subst (λ (y : Flight V). IsAsked (request_at (slice_set qs w (next noise false)) w) y) (sym (undecided_ends k kd (value_answered kd q noise.answer v) (resolved kd q noise.answer) x.outcome f' (sym (ap is_in_flight x.told_so) ∙ o) x.undecided)) tt
  pending_case noise k kd v q l false f' on e o (inr x) = subst (λ (y : Flight V). IsAsked (request_at (slice_set qs w (next noise on)) w) y) (sym x.over) tt
  pending_case noise k kd v q l true f' on e o x = concluded_asked _ x.entry.reply x.outcome f' x.concludes

  go_case : (noise : Noise Id V) (f : Flight V) (l : Line V) (fs' : Flights V) (on : Bool) → fs w ≡ f → l.step.worker ≡ w → is_in_flight l.report.outcome ≡ on → GoMap same fs f m noise.answer l fs' → Agrees (slice_set qs w (next noise on)) fs'
  go_case noise (Pending k kd v q) l fs' on e we o x =
      gone noise on fs' x.next (x.with_next ∙ ap (λ j. with_flight fs j x.next) we) (pending_case noise k kd v q l l.report.decided x.next on e o x.step)
  go_case noise (Decided r) l fs' on e we o x = gone noise on fs' x.next (x.with_next ∙ ap (λ j. with_flight fs j x.next) we) (concluded_asked _ r x.step.outcome x.next x.step.concludes)
  go_case noise Over l fs' on e we o x =
      asked_set qs fs w (next noise on) (fs w) each (over_here (request_at (slice_set qs w (next noise on)) w) e) fs' (ap (λ (g : Flights V). g w) x.same_flights) (λ i n. ap (λ (g : Flights V). g i) x.same_flights)
  go_case noise (Unbegun start end size) l fs' on e we o x = gone noise on fs' x.next (x.with_next ∙ ap (λ j. with_flight fs j x.next) we) (scan_asked _ start end size (m ∷ []) [] x.step.outcome x.next x.step.tells)
  go_case noise (Scanning start end size states places) l fs' on e we o x = gone noise on fs' x.next (x.with_next ∙ ap (λ j. with_flight fs j x.next) we) (scan_asked _ start end size (m ∷ states) places x.step.outcome x.next x.step.tells)

  -- after a step each worker's request agrees with its call
  pub asked_after : (event : Event V) (l : Line V) (fs' : Flights V) → l.step.worker ≡ w → Does same always (engine_of s) w event (misuse (engine_of s) w event) l.report (engine_of s') → EventMap same fs m event l fs'
      → (i : ℕ) → IsAsked (request_at (requests_after s w event (is_in_flight l.report.outcome)) i) (fs' i)
  asked_after Register l fs' we does x = λ i. subst (λ (g : Flights V). IsAsked (request_at qs i) (g i)) (sym x.same_flights) (each i)
  asked_after (Begin op) l fs' we does x = begin_case op (target op) l.report l fs' refl we (begin_free same always (engine_of s) (engine_of s') w holds fs fl op l.report does) x
  asked_after (Go noise) l fs' we does x =
      let P : ℕ → Type 0 = λ j. GoMap same fs (fs j) m noise.answer l fs' in
      go_case noise (fs w) l fs' (is_in_flight l.report.outcome) refl we refl (subst P we x)
