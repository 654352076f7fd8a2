-- A call that takes effect: its entry is what its worker asked for, with the reply that it tells in the end.
use Rattle.std.proofs.Common.{◌≡◌, ℕ, ◌+◌, ◌-◌, ◌<◌, ◌≤◌, arith, Bool, true, false, length, refl, sym, ◌∙◌, ap, subst, inl, inr}
use Rattle.std.specs.Prelude.{Option, None, Some, not, slice_get}
use Rattle.std.specs.FinMap.{get}
use Rattle.std.proofs.lemmas.Bool.{cases_Bool, false≢true, lt-ltb}
use Rattle.judge.specs.declared.journal.Call.{Call as Entered}
use Rattle.judge.specs.declared.journal.Entry.{Entry}
use Rattle.judge.specs.declared.journal.Reply.{Reply}
use Rattle.judge.specs.Answer.{Pairs, answer, key_of, reply_on}
use Rattle.judge.specs.Journal.{Answers}
use Rattle.congee.specs.declared.protocol.machine.Noise.{Noise}
use Rattle.congee.specs.declared.protocol.machine.Outcome.{Outcome as Moved}
use Rattle.congee.specs.declared.protocol.machine.Outcome.TheVariants as moved
use Rattle.congee.specs.declared.protocol.phase.Kind.{Kind}
use Rattle.congee.specs.declared.protocol.phase.Kind.TheVariants as kind
use Rattle.congee.specs.protocol.Play.{Flight, Pending, Decided, Over, Unbegun, Scanning, Question, value_answered, resolved, Concludes}
use Rattle.congee.specs.protocol.Protocol.{IsCall}
use Rattle.congee.specs.protocol.State.{may_write}
use Rattle.joint.specs.declared.id.Id.{Id}
use Rattle.joint.specs.declared.engine.request.Request.{Request}
use Rattle.joint.specs.declared.steps.Event.{Event}
use Rattle.joint.specs.declared.steps.Event.TheVariants.{Register, Begin, Go}
use Rattle.joint.specs.declared.steps.Outcome.{Outcome}
use Rattle.joint.specs.declared.steps.Outcome.TheVariants.{Running, Asks, Found, Registered, Done, Refused}
use Rattle.joint.specs.declared.steps.Target.{Target}
use Rattle.joint.specs.declared.steps.Target.TheVariants as target
use Rattle.joint.specs.engine.Intact.{is_reserving}
use Rattle.joint.specs.engine.Journaling.{HasAnswer, call_of, entry_of, has_place, places_of, reply_by, with_call}
use Rattle.joint.specs.engine.Log.{counted, has_room, request_at}
use Rattle.joint.specs.Reports.{target, told}
use Rattle.joint.specs.world.MapSteps.{looks_up, EventMap, GoMap, PendingStep, TakesEffect, BeginMap, BeginsOr, Stays, Line}
use Rattle.joint.specs.engine.Flying.{Flights, AreInFlight, with_flight}
use Rattle.joint.specs.world.World.{IsAsked, entry_at, answered_request}
use Rattle.joint.specs.engine.Engine.{World, EngineHolds, Does, engine_of, misuse}
use Rattle.joint.proofs.lemmas.engine.OneCallChanges.{Apart, counts_one, places_counted}
use Rattle.joint.proofs.lemmas.world.Asking.{pending_next}
use Rattle.joint.proofs.lemmas.engine.Entering.{first_undecided}
use Rattle.joint.proofs.lemmas.world.Flights.{ends_stays, flight_here}
use Rattle.joint.proofs.lemmas.world.JournalPlaces.{concluded_writes, place_here, place_writes, reply_here}
use Rattle.joint.proofs.lemmas.nodes.NodesInvariant.{some_injective}
use Rattle.joint.proofs.lemmas.world.Requested.{request_answered, request_call, writes_on}

module _ {V : Type 0} where
  call_key : (k : ℕ) (kd : Kind V) (v found : Option V) (c : Entered V) → IsCall k kd v found c → key_of c ≡ k
  call_key k kind.Get v found c i = ap key_of i
  call_key k kind.Insert None found c i = absurd i
  call_key k kind.Insert (Some x) found c i = ap key_of i
  call_key k kind.Remove v found c i = ap key_of i
  call_key k kind.ComputePresent v None c i = ap key_of i
  call_key k kind.ComputePresent v (Some y) c i = ap key_of i
  call_key k kind.ComputeInsert None found c i = absurd i
  call_key k kind.ComputeInsert (Some x) found c i = ap key_of i
  call_key k (kind.Exchange old) v found c i = ap key_of i

  call_looks : (k : ℕ) (kd : Kind V) (v found : Option V) (c : Entered V) → IsCall k kd v found c → may_write kd ≡ not (looks_up c)
  call_looks k kind.Get v found c i = sym (ap (λ x. not (looks_up x)) i)
  call_looks k kind.Insert None found c i = absurd i
  call_looks k kind.Insert (Some x) found c i = sym (ap (λ x. not (looks_up x)) i)
  call_looks k kind.Remove v found c i = sym (ap (λ x. not (looks_up x)) i)
  call_looks k kind.ComputePresent v None c i = sym (ap (λ x. not (looks_up x)) i)
  call_looks k kind.ComputePresent v (Some y) c i = sym (ap (λ x. not (looks_up x)) i)
  call_looks k kind.ComputeInsert None found c i = absurd i
  call_looks k kind.ComputeInsert (Some x) found c i = sym (ap (λ x. not (looks_up x)) i)
  call_looks k (kind.Exchange old) v found c i = sym (ap (λ x. not (looks_up x)) i)

  -- the entry of a call that took its answer
  entry_is : (w : ℕ) (o : Option (Request V)) (q : Request V) (ro : Option (Reply V)) (r : Reply V) (c : Entered V) (e : Entry V) → o ≡ Some q → ro ≡ Some r → call_of q.op q.answer r ≡ Some c → e.worker ≡ w → e.call ≡ c → e.reply ≡ r
      → entry_of w o ro ≡ Some e
  entry_is w o q ro r c e oq ror oc ew ec er =
      ap (λ x. entry_of w x ro) oq ∙ ap (λ x. entry_of w (Some q) x) ror ∙ ap (with_call w r) oc
      ∙ ap (λ x. Some (record { worker = x; call = c; reply = r })) (sym ew) ∙ ap (λ x. Some (record { worker = e.worker; call = x; reply = r })) (sym ec) ∙ ap (λ x. Some (record { worker = e.worker; call = e.call; reply = x })) (sym er)

module _ {V : Type 0} (same : V → V → Bool) (always : Bool) (s s' : World V) (w : ℕ) (holds : EngineHolds same always (engine_of s)) (holds' : EngineHolds same always (engine_of s')) (fs fs' : Flights V) (m : Pairs V)
    (fl : AreInFlight (engine_of s) fs) (fl' : AreInFlight (engine_of s') fs') (long : length s.log.requests ≡ length s.calls) (l : Line V) (we : l.step.worker ≡ w) where
  abbrev before : Bool
  before = has_place (slice_get s.calls w) (slice_get s.machines w)

  abbrev after : Bool
  after = has_place (slice_get s'.calls w) (slice_get s'.machines w)

  -- the entry of the call that takes effect in this line
  pub record Effect (event : Event V) : Type 0 where
    pub entry : Entry V
    pub is_entry : l.entry ≡ Some entry
    pub answers : Answers same m entry l.pairs
    pub noted : ((i : ℕ) → IsAsked (request_at s.log.requests i) (fs i)) → entry_at s w event l.report s' ≡ Some entry
    pub answered : ((i : ℕ) → IsAsked (request_at s.log.requests i) (fs i)) → (q : Request V) → answered_request s w event ≡ Some q → HasAnswer q.op q.answer entry.reply
    pub had : before ≡ not (looks_up entry.call)
    pub has : after ≡ false

  reply_told : (r : Reply V) (o : Moved V) (f' : Flight V) → l.report.outcome ≡ told o → fs' w ≡ f' → Concludes r o f' → reply_by l.report.outcome (slice_get s'.machines w) ≡ Some r
  reply_told r moved.Running f' t e c = ap (λ (y : Outcome V). reply_by y (slice_get s'.machines w)) t ∙ reply_here same always (engine_of s') w holds' fs' fl' r (e ∙ c)
  reply_told r (moved.Done z) f' t e c = ap (λ (y : Outcome V). reply_by y (slice_get s'.machines w)) t ∙ ap Some c.0
  reply_told r (moved.Asks x) f' t e c = absurd c
  reply_told r (moved.Refused x) f' t e c = absurd c
  reply_told r (moved.Found place key x) f' t e c = absurd c
  reply_told r (moved.Scanned count) f' t e c = absurd c

  -- the map's reply at the call's key is the entry's
  replies_of : (noise : Noise Id V) (k : ℕ) (kd : Kind V) (v : Option V) (q : Question V) (f' : Flight V) (t : TakesEffect same k kd (value_answered kd q noise.answer v) (resolved kd q noise.answer) m l f') → reply_on same t.entry.call (get m k) ≡ t.entry.reply
  replies_of noise k kd v q f' t = ap (λ x. reply_on same t.entry.call (get m x)) (sym (call_key k kd (value_answered kd q noise.answer v) (get m k) t.entry.call t.call)) ∙ ap (λ z. z.0) t.answers

  effect_of : (noise : Noise Id V) (k : ℕ) (kd : Kind V) (v : Option V) (q : Question V) (f' : Flight V) → fs w ≡ Pending k kd v q → fs' w ≡ f' → is_reserving (slice_get s.calls w) ≡ false
      → TakesEffect same k kd (value_answered kd q noise.answer v) (resolved kd q noise.answer) m l f' → Effect (Go noise)
  effect_of noise k kd v q f' e e' n t = record {
    entry = t.entry;
    is_entry = t.is_entry;
    answers = t.answers;
    noted = λ each.
        let h = pending_next same always s s' w holds fs m fl long each noise k kd v q e in
        let replies = replies_of noise k kd v q f' t in
        entry_is w _ h.request _ t.entry.reply t.entry.call t.entry h.is (reply_told t.entry.reply t.outcome f' t.told_so e' t.concludes)
        (ap (call_of h.request.op h.request.answer) (sym replies) ∙ request_call h.request same k kd (value_answered kd q noise.answer v) (get m k) t.entry.call h.of t.call) (t.worker ∙ we) refl refl;
    answered = λ each asked is.
        let h = pending_next same always s s' w holds fs m fl long each noise k kd v q e in
        let same_request : h.request ≡ asked = some_injective _ _ (sym h.is ∙ is) in
        let replies = replies_of noise k kd v q f' t in
        subst (λ r. HasAnswer asked.op asked.answer r) replies
        (subst (λ (y : Request V). HasAnswer y.op y.answer (reply_on same t.entry.call (get m k))) same_request
        (request_answered h.request same k kd (value_answered kd q noise.answer v) (get m k) t.entry.call (resolved kd q noise.answer) h.of t.call t.heeds h.question));
    had = place_here same always (engine_of s) w holds fs fl n ∙ ap writes_on e ∙ call_looks k kd (value_answered kd q noise.answer v) (get m k) t.entry.call t.call;
    has = place_writes same always (engine_of s') w holds' fs' fl' (ap writes_on e' ∙ concluded_writes t.entry.reply t.outcome f' t.concludes);
  }

  advanced : (f' : Flight V) → fs' ≡ with_flight fs l.step.worker f' → fs' w ≡ f'
  advanced f' e = ap (λ (g : Flights V). g w) (e ∙ ap (λ j. with_flight fs j f') we) ∙ flight_here fs w f'

  pending_effect : (noise : Noise Id V) (k : ℕ) (kd : Kind V) (v : Option V) (q : Question V) (f' : Flight V) (d : Bool) → d ≡ true → fs w ≡ Pending k kd v q → fs' w ≡ f' → is_reserving (slice_get s.calls w) ≡ false
      → PendingStep same k kd (value_answered kd q noise.answer v) (resolved kd q noise.answer) m d l f' → Effect (Go noise)
  pending_effect noise k kd v q f' true d e e' n t = effect_of noise k kd v q f' e e' n t
  pending_effect noise k kd v q f' false d e e' n t = absurd (false≢true d)

  go_effect : (noise : Noise Id V) (f : Flight V) → fs w ≡ f → l.report.decided ≡ true → is_reserving (slice_get s.calls w) ≡ false → GoMap same fs f m noise.answer l fs' → Effect (Go noise)
  go_effect noise (Pending k kd v q) e d n x = pending_effect noise k kd v q x.next l.report.decided d e (advanced x.next x.with_next) n x.step
  go_effect noise (Decided r) e d n x = absurd (false≢true (sym x.step.undecided ∙ d))
  go_effect noise Over e d n x = absurd (false≢true (sym x.undecided ∙ d))
  go_effect noise (Unbegun start end size) e d n x = absurd (false≢true (sym x.step.undecided ∙ d))
  go_effect noise (Scanning start end size states places) e d n x = absurd (false≢true (sym x.step.undecided ∙ d))

  -- no call takes effect in the step in which it begins
  pub begin_undecided : (t : Target V) (o : Outcome V) → l.report.outcome ≡ o → BeginMap fs m t l fs' → l.report.decided ≡ false
  begin_undecided (target.Collector op) o e x = x.undecided
  begin_undecided (target.Survey k) o e x = x.stays.undecided
  begin_undecided (target.Tree p) o e x = by o (let P : Outcome V → Type 0 = λ y. BeginsOr fs m p y l fs' in subst P e x) where
    by : (y : Outcome V) → BeginsOr fs m p y l fs' → l.report.decided ≡ false
    by (Refused c) z = z.undecided
    by (Done d) z = (ends_stays fs m p d l fs' z).undecided
    by Running z = z.undecided
    by (Asks a) z = z.undecided
    by (Found place key value) z = z.undecided
    by (Registered n) z = z.undecided

  -- a step that decides has the entry of the call that took effect
  pub decided_effect : (event : Event V) → l.report.decided ≡ true → Does same always (engine_of s) w event (misuse (engine_of s) w event) l.report (engine_of s') → EventMap same fs m event l fs' → Effect event
  decided_effect Register d does x = absurd (false≢true (sym x.undecided ∙ d))
  decided_effect (Begin op) d does x = absurd (false≢true (sym (begin_undecided (target op) l.report.outcome refl x) ∙ d))
  decided_effect (Go noise) d does x =
      let P : ℕ → Type 0 = λ j. GoMap same fs (fs j) m noise.answer l fs' in
      let first : is_reserving (slice_get s.calls w) ≡ false = elim (cases_Bool (is_reserving (slice_get s.calls w))) [
        | inl e ↦ absurd (false≢true (sym (first_undecided same always (engine_of s) (engine_of s') w holds noise l.report e does) ∙ d))
        | inr e ↦ e
      ] in
      go_effect noise (fs w) refl d first (subst P we x)

  -- a step that doesn't decide leaves the map
  pub record Leaves : Type 0 where
    pub no_entry : l.entry ≡ None
    pub same_pairs : l.pairs ≡ m

  of_stays : Stays fs m l fs' → Leaves
  of_stays x = record { no_entry = x.no_entry; same_pairs = x.same_pairs }

  pending_leaves : (k : ℕ) (kd : Kind V) (v : Option V) (q : Question V) (f' : Flight V) (d : Bool) → d ≡ false → PendingStep same k kd v q m d l f' → Leaves
  pending_leaves k kd v q f' false d (inl x) = record { no_entry = x.no_entry; same_pairs = x.same_pairs }
  pending_leaves k kd v q f' false d (inr x) = record { no_entry = x.no_entry; same_pairs = x.same_pairs }
  pending_leaves k kd v q f' true d x = absurd (false≢true (sym d))

  go_leaves : (answer : Option (Option V)) (f : Flight V) → l.report.decided ≡ false → GoMap same fs f m answer l fs' → Leaves
  go_leaves answer (Pending k kd v q) d x = pending_leaves k kd (value_answered kd q answer v) (resolved kd q answer) x.next l.report.decided d x.step
  go_leaves answer (Decided r) d x = record { no_entry = x.step.no_entry; same_pairs = x.step.same_pairs }
  go_leaves answer Over d x = of_stays x
  go_leaves answer (Unbegun start end size) d x = record { no_entry = x.step.no_entry; same_pairs = x.step.same_pairs }
  go_leaves answer (Scanning start end size states places) d x = record { no_entry = x.step.no_entry; same_pairs = x.step.same_pairs }

  begin_leaves : (t : Target V) (o : Outcome V) → l.report.outcome ≡ o → BeginMap fs m t l fs' → Leaves
  begin_leaves (target.Collector op) o e x = of_stays x
  begin_leaves (target.Survey k) o e x = of_stays x.stays
  begin_leaves (target.Tree p) o e x = by o (let P : Outcome V → Type 0 = λ y. BeginsOr fs m p y l fs' in subst P e x) where
    by : (y : Outcome V) → BeginsOr fs m p y l fs' → Leaves
    by (Refused c) z = of_stays z
    by (Done d) z = of_stays (ends_stays fs m p d l fs' z)
    by Running z = record { no_entry = z.no_entry; same_pairs = z.same_pairs }
    by (Asks a) z = record { no_entry = z.no_entry; same_pairs = z.same_pairs }
    by (Found place key value) z = record { no_entry = z.no_entry; same_pairs = z.same_pairs }
    by (Registered n) z = record { no_entry = z.no_entry; same_pairs = z.same_pairs }

  -- a step that doesn't decide has no entry, and the pairs stay
  pub leaves : (event : Event V) → l.report.decided ≡ false → EventMap same fs m event l fs' → Leaves
  leaves Register d x = of_stays x
  leaves (Begin op) d x = begin_leaves (target op) l.report.outcome refl x
  leaves (Go noise) d x = go_leaves noise.answer (fs l.step.worker) d x

-- the place that a call gives back is free for its entry
pub room_for : {V : Type 0} (s s' : World V) (w : ℕ) → length s.machines ≡ length s.calls → Apart (engine_of s) (engine_of s') w → has_place (slice_get s.calls w) (slice_get s.machines w) ≡ true → has_place (slice_get s'.calls w) (slice_get s'.machines w) ≡ false
    → length s.log.entries + s.log.reserved ≤ s.log.places → s.log.reserved ≡ places_of s.calls s.machines → s'.log.reserved ≡ places_of s'.calls s'.machines → has_room (record s.log { reserved = s'.log.reserved }) ≡ true
room_for {V} s s' w l a b c room r r' =
    let one : 0 < places_of s.calls s.machines = counts_one s.calls s.machines w l b in
    let P : Bool → Bool → Type 0 = λ x y. counted x y (places_of s.calls s.machines) ≡ places_of s'.calls s'.machines in
    let n : places_of s.calls s.machines - 1 ≡ places_of s'.calls s'.machines = subst (λ x. P true x) c (subst (λ x. P x (has_place (slice_get s'.calls w) (slice_get s'.machines w))) b (places_counted (engine_of s) (engine_of s') w l a)) in
    lt-ltb (length s.log.entries + s'.log.reserved) s.log.places (omega (arith, one, n, room, r, r'))
