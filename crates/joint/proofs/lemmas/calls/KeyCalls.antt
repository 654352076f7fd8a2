-- A call on one key that no other worker's step comes between answers as the map that stood.
use Rattle.std.proofs.Common.{◌≡◌, ℕ, ◌==◌, Bool, true, false, List, [], ◌∷◌, refl, sym, ◌∙◌, ap, subst, inl, inr, ◌⊎◌, if◌then◌else◌}
use Rattle.std.specs.Prelude.{Option, None, Some}
use Rattle.std.specs.FinMap.{get}
use Rattle.std.proofs.lemmas.Bool.{cases_Bool, eqb-true}
use Rattle.judge.specs.declared.journal.Call.{Call as Entered}
use Rattle.judge.specs.declared.journal.Call.TheVariants as entered
use Rattle.judge.specs.declared.journal.Reply.{Reply}
use Rattle.judge.specs.Answer.{Pairs, answer}
use Rattle.congee.specs.declared.protocol.machine.Noise.{Noise}
use Rattle.congee.specs.declared.protocol.machine.Outcome.{Outcome as Moved}
use Rattle.congee.specs.declared.protocol.machine.Outcome.TheVariants as moved
use Rattle.congee.specs.declared.protocol.op.Op.{Op as Point}
use Rattle.congee.specs.declared.protocol.op.Op.TheVariants as point
use Rattle.congee.specs.declared.protocol.phase.Kind.{Kind as Does}
use Rattle.congee.specs.declared.protocol.phase.Kind.TheVariants as does
use Rattle.congee.specs.Keys.{IsMapOf}
use Rattle.congee.specs.protocol.Play.{Flight, Pending, Decided, Over, Question, Unasked, Asked, Replied, parts, range_of, value_answered, resolved, Carries, Undecided, Heeds, Concludes}
use Rattle.congee.specs.protocol.Protocol.{IsCall, Asking}
use Rattle.joint.specs.declared.id.Id.{Id}
use Rattle.joint.specs.declared.steps.Done.{Done as Answer}
use Rattle.joint.specs.declared.steps.Done.TheVariants as done
use Rattle.joint.specs.declared.steps.Event.TheVariants.{Begin, Go}
use Rattle.joint.specs.declared.steps.Done.TheVariants.{Scanned}
use Rattle.joint.specs.declared.steps.Op.{Op}
use Rattle.joint.specs.declared.steps.Outcome.{Outcome}
use Rattle.joint.specs.declared.steps.Outcome.TheVariants.{Running, Asks, Found, Registered, Done, Refused}
use Rattle.joint.specs.declared.steps.Report.{Report}
use Rattle.joint.specs.declared.steps.Step.{Step}
use Rattle.joint.specs.declared.steps.Target.{Target}
use Rattle.joint.specs.declared.steps.Target.TheVariants as target
use Rattle.joint.specs.nodes.Nodes.{nodes}
use Rattle.joint.specs.calls.MapCalls.{AllGoOn, told_after, Answered, answered_by, answer_in, answered_after, IsPresent, IsComputed, IsOnMap, TookEffect, IsUndecided, IsDecided, KeepsAll, IsDoneWith, PlaysKey}
use Rattle.joint.specs.Reports.{target, told, is_in_flight}
use Rattle.joint.specs.calls.Runs.{Taken, AreTaken, after_all}
use Rattle.joint.specs.world.MapSteps.{GoMap, StepsFlight, PendingStep, BeginMap, BeginsOr, EndsAtOnce, EndsEmpty, BeginsFlight, Stays, Line}
use Rattle.joint.specs.engine.Flying.{Flights, with_flight, IsInFlight, AreInFlight}
use Rattle.joint.specs.world.World.{Holds, IsOnKey, IsStep}
use Rattle.joint.specs.engine.Engine.{World}
use Rattle.joint.proofs.lemmas.world.Flights.{flight_here, begins_pending}
use Rattle.joint.proofs.lemmas.world.JournaledSteps.{Mapped, step_mapped}

-- flights that are the same one by one
module _ {V : Type 0} where
  -- calls watched alike one by one are watched beside the same machines
  pub same_flights : (s : World V) (fs gs : Flights V) → ((i : ℕ) → fs i ≡ gs i) → AreInFlight s fs → AreInFlight s gs
  same_flights s fs gs same fl = record {
    each = λ i k m a b. subst (λ (f : Flight V). IsInFlight k m f) (same i) (fl.each i k m a b);
    beyond = λ i l. sym (same i) ∙ fl.beyond i l;
  }

  set_again : (fs : Flights V) (w : ℕ) (f g : Flight V) (i : ℕ) → with_flight (with_flight fs w f) w g i ≡ with_flight fs w g i
  set_again fs w f g i =
      let P : Bool → Type 0 = λ b. (if b then g else (if b then f else fs i)) ≡ (if b then g else fs i) in
      elim (cases_Bool (i == w)) [
        | inl e ↦ subst P (sym e) refl
        | inr e ↦ subst P (sym e) refl
      ]

  -- where a worker's flight was put twice, the last one counts
  pub once_more : (s : World V) (fs : Flights V) (w : ℕ) (f g : Flight V) → AreInFlight s (with_flight (with_flight fs w f) w g) → AreInFlight s (with_flight fs w g)
  once_more s fs w f g fl = same_flights s _ _ (set_again fs w f g) fl

  set_back : (fs : Flights V) (w : ℕ) → fs w ≡ Over → (i : ℕ) → with_flight fs w Over i ≡ fs i
  set_back fs w over i =
      let P : Bool → Type 0 = λ b. (if b then Over else fs i) ≡ fs i in
      elim (cases_Bool (i == w)) [
        | inl e ↦ subst P (sym e) (sym (ap fs (eqb-true i w e) ∙ over))
        | inr e ↦ subst P (sym e) refl
      ]

  -- with a worker's flight put as over that was over before, the flights are as before
  pub as_before : (s : World V) (fs : Flights V) (w : ℕ) → fs w ≡ Over → AreInFlight s (with_flight fs w Over) → AreInFlight s fs
  as_before s fs w over fl = same_flights s _ _ (set_back fs w over) fl

-- the value that a call has: a call without a closure keeps the one that it was given
abbrev Given : {V : Type 0} → Does V → Option V → Option V → Type 0
Given does.ComputePresent given v = Unit {0}
Given does.ComputeInsert given v = Unit {0}
Given _ given v = v ≡ given

-- between two steps: what the call has of its closure, by what it told last and what was answered last
abbrev Tied : {V : Type 0} → Does V → Option V → Answered V → Outcome V → Option V → Question V → Type 0
Tied kind given last told v Unasked = Given kind given v
Tied kind given last told v (Asked o) = Asking kind × (told ≡ Asks o)
Tied kind given last told v (Replied o) = Asking kind × (told ≡ Running) × (last ≡ Some (o, v))

-- in a step, once the answer that comes with it is taken
abbrev Ready : {V : Type 0} → Does V → Option V → Answered V → Option V → Question V → Type 0
Ready kind given last v Unasked = Given kind given v
Ready kind given last v (Asked o) = Asking kind
Ready kind given last v (Replied o) = Asking kind × (last ≡ Some (o, v))

module _ {V : Type 0} where
  answer_taken : (kind : Does V) (given v o x : Option V) (last : Answered V) → Asking kind → Ready kind given (Some (o, x)) (value_answered kind (Asked o) (Some x) v) (resolved kind (Asked o) (Some x))
  answer_taken does.ComputePresent given v o None last a = (tt, refl)
  answer_taken does.ComputePresent given v o (Some x) last a = (tt, refl)
  answer_taken does.ComputeInsert given v o None last a = tt
  answer_taken does.ComputeInsert given v o (Some x) last a = (tt, refl)
  answer_taken does.Get given v o x last a = absurd a
  answer_taken does.Insert given v o x last a = absurd a
  answer_taken does.Remove given v o x last a = absurd a
  answer_taken (does.Exchange old) given v o x last a = absurd a

  ready : (kind : Does V) (given v : Option V) (q : Question V) (last : Answered V) (said : Outcome V) (a : Option (Option V)) → Tied kind given last said v q
      → Ready kind given (answered_by a said last) (value_answered kind q a v) (resolved kind q a)
  ready kind given v Unasked last said a t = t
  ready kind given v (Asked o) last said None t = t.0
  ready kind given v (Asked o) last said (Some x) t =
      let P : Outcome V → Type 0 = λ y. Ready kind given (answered_by (Some x) y last) (value_answered kind (Asked o) (Some x) v) (resolved kind (Asked o) (Some x)) in
      subst P (sym t.1) (answer_taken kind given v o x last t.0)
  ready kind given v (Replied o) last said None t = (t.0, t.2)
  ready kind given v (Replied o) last said (Some x) t =
      let P : Outcome V → Type 0 = λ y. answered_by (Some x) y last ≡ Some (o, v) in
      (t.0, subst P (sym t.1) t.2)

  given_asking : (kind : Does V) (given v : Option V) → Asking kind → Given kind given v
  given_asking does.ComputePresent given v a = tt
  given_asking does.ComputeInsert given v a = tt
  given_asking does.Get given v a = absurd a
  given_asking does.Insert given v a = absurd a
  given_asking does.Remove given v a = absurd a
  given_asking (does.Exchange old) given v a = absurd a

  given_ready : (kind : Does V) (given v : Option V) (q : Question V) (last : Answered V) → Ready kind given last v q → Given kind given v
  given_ready kind given v Unasked last r = r
  given_ready kind given v (Asked o) last r = given_asking kind given v r
  given_ready kind given v (Replied o) last r = given_asking kind given v r.0

  -- a call that goes on keeps its answer, or has none
  carried : (kind : Does V) (given v : Option V) (q q' : Question V) (last : Answered V) → Ready kind given last v q → Carries q q' → Tied kind given last Running v q'
  carried kind given v q Unasked last r c = given_ready kind given v q last r
  carried kind given v q (Asked o) last r c = absurd c
  carried kind given v q (Replied o) last r c =
      let P : Question V → Type 0 = λ x. Ready kind given last v x in
      let y : Ready kind given last v (Replied o) = subst P c r in
      (y.0, refl, y.1)

  -- the call that takes effect is the one that began
  present : (k : ℕ) (found v : Option V) (q : Question V) (last : Answered V) (c : Entered V) → Ready does.ComputePresent None last v q → IsCall k does.ComputePresent v found c → Heeds does.ComputePresent found q → IsPresent k found last c
  present k None v q last c r is h = is
  present k (Some x) v q last c r is h =
      let P : Question V → Type 0 = λ y. Ready does.ComputePresent None last v y in
      let y : Ready does.ComputePresent None last v (Replied (Some x)) = subst P h r in
      (v, y.1, is)

  computed : (k : ℕ) (found v : Option V) (q : Question V) (last : Answered V) (c : Entered V) → Ready does.ComputeInsert None last v q → IsCall k does.ComputeInsert v found c → Heeds does.ComputeInsert found q → IsComputed k found last c
  computed k found None q last c r is h = absurd is
  computed k found (Some x) q last c r is h =
      let P : Question V → Type 0 = λ y. Ready does.ComputeInsert None last (Some x) y in
      let y : Ready does.ComputeInsert None last (Some x) (Replied found) = subst P h r in
      (x, y.1, is)

  on_map : (m : Pairs V) (p : Point V) (v : Option V) (q : Question V) (last : Answered V) (c : Entered V) → IsOnKey p → Ready (parts p).1 (parts p).2 last v q
      → IsCall (parts p).0 (parts p).1 v (get m (parts p).0) c → Heeds (parts p).1 (get m (parts p).0) q → IsOnMap m last p c
  on_map m (point.Get k) v q last c u r is h = is
  on_map m (point.Insert k x) v q last c u r is h =
      let P : Option V → Type 0 = λ y. IsCall k does.Insert y (get m k) c in
      subst P (given_ready does.Insert (Some x) v q last r) is
  on_map m (point.Remove k) v q last c u r is h = is
  on_map m (point.ComputePresent k) v q last c u r is h = present k (get m k) v q last c r is h
  on_map m (point.ComputeInsert k) v q last c u r is h = computed k (get m k) v q last c r is h
  on_map m (point.Exchange k old new) v q last c u r is h = is ∙ ap (entered.Exchange k old) (given_ready (does.Exchange old) new v q last r)
  on_map m (point.Range start end size) v q last c u r is h = absurd u
  on_map m (point.RangeInclusive start greatest size) v q last c u r is h = absurd u

  given_first : (p : Point V) → IsOnKey p → Given (parts p).1 (parts p).2 (parts p).2
  given_first (point.Get k) u = refl
  given_first (point.Insert k v) u = refl
  given_first (point.Remove k) u = refl
  given_first (point.ComputePresent k) u = tt
  given_first (point.ComputeInsert k) u = tt
  given_first (point.Exchange k old new) u = refl
  given_first (point.Range start end size) u = absurd u
  given_first (point.RangeInclusive start last size) u = absurd u

  no_range : (p : Point V) → IsOnKey p → range_of p ≡ None
  no_range (point.Get k) u = refl
  no_range (point.Insert k v) u = refl
  no_range (point.Remove k) u = refl
  no_range (point.ComputePresent k) u = refl
  no_range (point.ComputeInsert k) u = refl
  no_range (point.Exchange k old new) u = refl
  no_range (point.Range start end size) u = absurd u
  no_range (point.RangeInclusive start last size) u = absurd u

  never_at_once : (fs : Flights V) (m : Pairs V) (p : Point V) (d : Answer V) (l : Line V) (fs' : Flights V) → IsOnKey p → EndsAtOnce fs m p d l fs' → ⊥
  never_at_once fs m p (done.Scanned count) l fs' u x = let P : Option (ℕ × ℕ × ℕ) → Type 0 = λ o. EndsEmpty o count fs m l fs' in subst P (no_range p u) x
  never_at_once fs m p done.Unit l fs' u x = x
  never_at_once fs m p (done.Reply r) l fs' u x = x
  never_at_once fs m p (done.Keys keys) l fs' u x = x
  never_at_once fs m p (done.Empty e) l fs' u x = x
  never_at_once fs m p (done.Stats stats) l fs' u x = x

-- a call's first step
abbrev pub begin_of : {V : Type 0} → ℕ → Op V → Step V
begin_of w op = record { worker = w; event = Begin op }

-- a further step of a call in flight
abbrev pub further_step : {V : Type 0} → ℕ → Noise Id V → Step V
further_step w noise = record { worker = w; event = Go noise }

-- a step in which no call on the tree goes on keeps the pairs and the calls in flight
pub stays_keeps_all : {V : Type 0} (fs : Flights V) (m : Pairs V) (l : Line V) (fs' : Flights V) (s : World V) → Stays fs m l fs' → IsMapOf (nodes s.forest) l.pairs → AreInFlight s fs' → KeepsAll fs m s
stays_keeps_all {V} fs m l fs' s x st fl =
    let P : Pairs V → Type 0 = λ n. IsMapOf (nodes s.forest) n in
    let Q : Flights V → Type 0 = λ n. AreInFlight s n in
    (subst P x.same_pairs st, subst Q x.same_flights fl)

module _ {V : Type 0} (same : V → V → Bool) (always : Bool) (fs : Flights V) (m : Pairs V) (w : ℕ) (p : Point V) (on_key : IsOnKey p) where
  -- before it took effect, with what the call has of its closure
  record Before (last : Answered V) (said : Outcome V) (s : World V) : Type 0 where
    free : fs w ≡ Over
    value : Option V
    question : Question V
    in_flight : AreInFlight s (with_flight fs w (Pending (parts p).0 (parts p).1 value question))
    stand : IsMapOf (nodes s.forest) m
    tied : Tied (parts p).1 (parts p).2 last said value question

  abbrev Course : Answered V → Outcome V → World V → Type 0
  Course last Running s = Before last Running s ⊎ IsDecided same fs m w last p s
  Course last (Asks o) s = Before last (Asks o) s
  Course last (Found place key value) s = ⊥
  Course last (Registered n) s = ⊥
  Course last (Done d) s = IsDoneWith same fs m last p d s
  Course last (Refused e) s = IsMapOf (nodes s.forest) m × AreInFlight s fs

  before_key : (last : Answered V) (said : Outcome V) (s : World V) → Before last said s → IsUndecided fs m w p s
  before_key last said s b = record { free = b.free; value = b.value; question = b.question; in_flight = b.in_flight; stand = b.stand }

  plays : (last : Answered V) (said : Outcome V) (s : World V) → Course last said s → PlaysKey same fs m w last p said s
  plays last Running s (inl b) = inl (before_key last Running s b)
  plays last Running s (inr b) = inr b
  plays last (Asks o) s b = before_key last (Asks o) s b
  plays last (Found place key value) s b = absurd b
  plays last (Registered n) s b = absurd b
  plays last (Done d) s b = b
  plays last (Refused e) s b = b

  -- a step that took effect, or a later one
  concluded : (r : Reply V) (o : Moved V) (f : Flight V) (last : Answered V) (said : Outcome V) (s : World V) → fs w ≡ Over → said ≡ told o → Concludes r o f → AreInFlight s (with_flight fs w f)
      → TookEffect same m last p r s → Course last said s
  concluded r moved.Running f last said s free e u fl t =
      let P : Outcome V → Type 0 = λ x. Course last x s in
      let Q : Flight V → Type 0 = λ x. AreInFlight s (with_flight fs w x) in
      subst P (sym e) (inr (record { free = free; reply = r; in_flight = subst Q u fl; effect = t }))
  concluded r (moved.Done y) f last said s free e u fl t =
      let P : Outcome V → Type 0 = λ x. Course last x s in
      let Q : Flight V → Type 0 = λ x. AreInFlight s (with_flight fs w x) in
      let R : Reply V → Type 0 = λ x. TookEffect same m last p x s in
      subst P (sym e) (subst R (sym u.0) t, as_before s fs w free (subst Q u.1 fl))
  concluded r (moved.Asks o) f last said s free e u fl t = absurd u
  concluded r (moved.Found place key x) f last said s free e u fl t = absurd u
  concluded r (moved.Scanned count) f last said s free e u fl t = absurd u
  concluded r (moved.Refused cause) f last said s free e u fl t = absurd u

  -- a step before it
  undecided : (v : Option V) (q : Question V) (o : Moved V) (f : Flight V) (last : Answered V) (said : Outcome V) (s : World V) → fs w ≡ Over → said ≡ told o
      → Ready (parts p).1 (parts p).2 last v q → Undecided (parts p).0 (parts p).1 v q o f → AreInFlight s (with_flight fs w f) → IsMapOf (nodes s.forest) m → Course last said s
  undecided v q moved.Running f last said s free e r u fl st =
      let P : Outcome V → Type 0 = λ x. Course last x s in
      let Q : Flight V → Type 0 = λ x. AreInFlight s (with_flight fs w x) in
      subst P (sym e) (inl (record {
        free = free;
        value = v;
        question = u.0;
        in_flight = subst Q u.2 fl;
        stand = st;
        tied = carried (parts p).1 (parts p).2 v q u.0 last r u.1;
      }))
  undecided v q (moved.Asks o) f last said s free e r u fl st =
      let P : Outcome V → Type 0 = λ x. Course last x s in
      let Q : Flight V → Type 0 = λ x. AreInFlight s (with_flight fs w x) in
      subst P (sym e) (record { free = free; value = v; question = Asked o; in_flight = subst Q u.1 fl; stand = st; tied = (u.0, refl) })
  undecided v q (moved.Refused cause) f last said s free e r u fl st =
      let P : Outcome V → Type 0 = λ x. Course last x s in
      let Q : Flight V → Type 0 = λ x. AreInFlight s (with_flight fs w x) in
      subst P (sym e) (st, as_before s fs w free (subst Q u fl))
  undecided v q (moved.Done y) f last said s free e r u fl st = absurd u
  undecided v q (moved.Found place key x) f last said s free e r u fl st = absurd u
  undecided v q (moved.Scanned count) f last said s free e r u fl st = absurd u

  pending : (v : Option V) (q : Question V) (b : Bool) (l : Line V) (f : Flight V) (last : Answered V) (s : World V) → fs w ≡ Over → Ready (parts p).1 (parts p).2 last v q
      → PendingStep same (parts p).0 (parts p).1 v q m b l f → AreInFlight s (with_flight fs w f) → IsMapOf (nodes s.forest) l.pairs → Course last l.report.outcome s
  pending v q false l f last s free r (inl t) fl st =
      let P : Pairs V → Type 0 = λ x. IsMapOf (nodes s.forest) x in
      undecided v q t.outcome f last l.report.outcome s free t.told_so r t.undecided fl (subst P t.same_pairs st)
  pending v q false l f last s free r (inr t) fl st =
      let P : Outcome V → Type 0 = λ x. Course last x s in
      let Q : Flight V → Type 0 = λ x. AreInFlight s (with_flight fs w x) in
      let R : Pairs V → Type 0 = λ x. IsMapOf (nodes s.forest) x in
      subst P (sym t.full) (subst R t.same_pairs st, as_before s fs w free (subst Q t.over fl))
  pending v q true l f last s free r t fl st =
      let P : Pairs V → Type 0 = λ x. IsMapOf (nodes s.forest) x in
      concluded t.entry.reply t.outcome f last l.report.outcome s free t.told_so t.concludes fl (record {
        call = t.entry.call;
        on_map = on_map m p v q last t.entry.call on_key r t.call t.heeds;
        answers = ap (λ (x : Reply V × Pairs V). x.0) t.answers;
        stand = subst P (sym (ap (λ (x : Reply V × Pairs V). x.1) t.answers)) st;
      })

  -- a further step
  from_before : (noise : Noise Id V) (last : Answered V) (said : Outcome V) (s : World V) (r : Report V) (s' : World V) → Holds same always s → Before last said s → IsStep same always s (further_step w noise) r s'
      → Course (answered_by noise.answer said last) r.outcome s'
  from_before noise last said s r s' h b x =
      let f : Flight V = Pending (parts p).0 (parts p).1 b.value b.question in
      let y : Mapped same always s (further_step w noise) r s' (with_flight fs w f) m = step_mapped same always s (further_step w noise) s' (with_flight fs w f) m h x.holds b.stand b.in_flight r x in
      let l : Line V = record { step = further_step w noise; report = r; entry = y.entry; pairs = y.pairs } in
      let P : Flight V → Type 0 = λ z. GoMap same (with_flight fs w f) z m noise.answer l y.flights in
      let a : StepsFlight same (with_flight fs w f) f m noise.answer l y.flights = subst P (flight_here fs w f) y.map in
      let fl : AreInFlight s' (with_flight fs w a.next) = once_more s' fs w f a.next (subst (λ (z : Flights V). AreInFlight s' z) a.with_next y.in_flight) in
      pending (value_answered (parts p).1 b.question noise.answer b.value) (resolved (parts p).1 b.question noise.answer) r.decided l a.next (answered_by noise.answer said last) s' b.free
      (ready (parts p).1 (parts p).2 b.value b.question last said noise.answer b.tied) a.step fl y.stand

  from_decided : (noise : Noise Id V) (last : Answered V) (s : World V) (r : Report V) (s' : World V) → Holds same always s → IsDecided same fs m w last p s → IsStep same always s (further_step w noise) r s'
      → Course last r.outcome s'
  from_decided noise last s r s' h b x =
      let f : Flight V = Decided b.reply in
      let n : Pairs V = (answer same m b.effect.call).1 in
      let y : Mapped same always s (further_step w noise) r s' (with_flight fs w f) n = step_mapped same always s (further_step w noise) s' (with_flight fs w f) n h x.holds b.effect.stand b.in_flight r x in
      let l : Line V = record { step = further_step w noise; report = r; entry = y.entry; pairs = y.pairs } in
      let P : Flight V → Type 0 = λ z. GoMap same (with_flight fs w f) z n noise.answer l y.flights in
      let a : StepsFlight same (with_flight fs w f) f n noise.answer l y.flights = subst P (flight_here fs w f) y.map in
      let fl : AreInFlight s' (with_flight fs w a.next) = once_more s' fs w f a.next (subst (λ (z : Flights V). AreInFlight s' z) a.with_next y.in_flight) in
      let Q : Pairs V → Type 0 = λ z. IsMapOf (nodes s'.forest) z in
      concluded b.reply a.step.outcome a.next last r.outcome s' b.free a.step.told_so a.step.concludes fl (record {
        call = b.effect.call;
        on_map = b.effect.on_map;
        answers = b.effect.answers;
        stand = subst Q a.step.same_pairs y.stand;
      })

  keeps_last : (a : Option (Option V)) (last : Answered V) → answered_by a Running last ≡ last
  keeps_last None last = refl
  keeps_last (Some x) last = refl

  further : (noise : Noise Id V) (last : Answered V) (said : Outcome V) (s : World V) (r : Report V) (s' : World V) → Holds same always s → is_in_flight said ≡ true → Course last said s
      → IsStep same always s (further_step w noise) r s' → Course (answered_by noise.answer said last) r.outcome s'
  further noise last Running s r s' h on (inl b) x = from_before noise last Running s r s' h b x
  further noise last Running s r s' h on (inr b) x =
      let P : Answered V → Type 0 = λ y. Course y r.outcome s' in
      subst P (sym (keeps_last noise.answer last)) (from_decided noise last s r s' h b x)
  further noise last (Asks o) s r s' h on b x = from_before noise last (Asks o) s r s' h b x
  further noise last (Found place key value) s r s' h on b x = absurd b
  further noise last (Registered n) s r s' h on b x = absurd b
  further noise last (Done d) s r s' h on b x = absurd (cc on)
  further noise last (Refused e) s r s' h on b x = absurd (cc on)

  ends : (more : List (Taken V)) (last : Answered V) (said : Outcome V) (s : World V) → Holds same always s → Course last said s → AreTaken same always s more → AllGoOn w said more
      → Course (answered_after said last more) (told_after said more) (after_all s more)
  ends [] last said s h c x g = c
  ends (t ∷ ts) last said s h c x g =
      let P : Step V → Type 0 = λ y. IsStep same always s y t.report t.after → Course (answered_by (answer_in y.event) said last) t.report.outcome t.after in
      let next : Course (answered_by (answer_in t.step.event) said last) t.report.outcome t.after = subst P (sym g.0.step) (further g.0.noise last said s t.report t.after h g.0.in_flight c) x.0 in
      ends ts (answered_by (answer_in t.step.event) said last) t.report.outcome t.after x.0.holds next x.1 g.1

  -- the first step
  begins : (op : Op V) (s : World V) (r : Report V) (s' : World V) → target op ≡ target.Tree p → Holds same always s → IsMapOf (nodes s.forest) m → AreInFlight s fs
      → IsStep same always s (begin_of w op) r s' → Course None r.outcome s'
  begins op s r s' on_tree h st fl x = begun_so r.outcome refl begin where
    y : Mapped same always s (begin_of w op) r s' fs m
    y = step_mapped same always s (begin_of w op) s' fs m h x.holds st fl r x

    l : Line V
    l = record { step = begin_of w op; report = r; entry = y.entry; pairs = y.pairs }

    begin : BeginsOr fs m p r.outcome l y.flights
    begin = let P : Target V → Type 0 = λ t. BeginMap fs m t l y.flights in subst P on_tree y.map

    in_flight : BeginsFlight fs m p l y.flights → Course None r.outcome s'
    in_flight z =
        let P : Outcome V → Type 0 = λ o. Course None o s' in
        let Q : Pairs V → Type 0 = λ n. IsMapOf (nodes s'.forest) n in
        let R : Flights V → Type 0 = λ n. AreInFlight s' n in
        subst P (sym z.accepted) (inl (record {
          free = z.free;
          value = (parts p).2;
          question = Unasked;
          in_flight = subst R (z.begins ∙ ap (λ f. with_flight fs w f) (begins_pending p on_key)) y.in_flight;
          stand = subst Q z.same_pairs y.stand;
          tied = given_first p on_key;
        }))

    begun_so : (o : Outcome V) → r.outcome ≡ o → BeginsOr fs m p o l y.flights → Course None r.outcome s'
    begun_so (Refused e) is z =
        let P : Outcome V → Type 0 = λ o. Course None o s' in
        let Q : Pairs V → Type 0 = λ n. IsMapOf (nodes s'.forest) n in
        let R : Flights V → Type 0 = λ n. AreInFlight s' n in
        subst P (sym is) (subst Q z.same_pairs y.stand, subst R z.same_flights y.in_flight)
    begun_so Running is z = in_flight z
    begun_so (Asks found) is z = in_flight z
    begun_so (Found place key value) is z = in_flight z
    begun_so (Registered n) is z = in_flight z
    begun_so (Done d) is z = absurd (never_at_once fs m p d l y.flights on_key z)

  -- a call on one key that no other worker's step comes between plays on the map as such a call does
  pub key_plays : (op : Op V) (s : World V) (first : Taken V) (more : List (Taken V)) → target op ≡ target.Tree p → Holds same always s → IsMapOf (nodes s.forest) m → AreInFlight s fs
      → IsStep same always s (begin_of w op) first.report first.after → AreTaken same always first.after more → AllGoOn w first.report.outcome more
      → PlaysKey same fs m w (answered_after first.report.outcome None more) p (told_after first.report.outcome more) (after_all first.after more)
  key_plays op s first more on_tree h st fl x y g =
      plays _ _ _ (ends more None first.report.outcome first.after x.holds (begins op s first.report first.after on_tree h st fl x) y g)
