-- Each step of a call is one that the watch of a map's run allows.
use Rattle.std.proofs.Common.{◌≡◌, ◌≢◌, ℕ, ◌<◌, ◌^◌, Bool, refl, sym, ◌∙◌, ap, subst}
use Rattle.std.specs.Prelude.{Option, None, Some}
use Rattle.std.specs.FinMap.{get}
use Rattle.judge.specs.declared.journal.Call.{Call}
use Rattle.judge.specs.declared.journal.Call.TheVariants as call
use Rattle.judge.specs.declared.journal.Reply.{Reply}
use Rattle.judge.specs.declared.journal.Reply.TheVariants as reply
use Rattle.judge.specs.Answer.{Pairs, set_at, key_of, leaves, reply_on, answer}
use Rattle.judge.proofs.Laws.{get-set_at_here, get-set_at_apart, answer_at}
use Rattle.congee.specs.declared.forms.base_node.NodeType.{NodeType}
use Rattle.congee.specs.declared.protocol.store.Refusal.{Refusal}
use Rattle.congee.specs.declared.protocol.phase.Kind.{Kind}
use Rattle.congee.specs.declared.protocol.phase.Kind.TheVariants.{Get, Insert, Remove, ComputePresent, ComputeInsert, Exchange}
use Rattle.congee.specs.declared.protocol.phase.Phase.{Phase}
use Rattle.congee.specs.declared.protocol.phase.Phase.TheVariants.{New, Version, Read, Check, CheckUncopied, CheckMiss, CheckDown, CheckOld, MakeLeaf, MakeGreater, MakeTop, MakeBeside, MakeLesser, AskOld, AskNew, Confirm, CheckAbove, UpgradeHere, ChangeHere, UpgradeTop, UpgradeAbove, UpgradeBelow, ChangeAbove, Obsolete, Retire, UnlockBelow, Unlock, Unwind, Scan, Ended}
use Rattle.congee.specs.declared.protocol.next_phase.NextPhase.{NextPhase}
use Rattle.congee.specs.Heap.{Node, is_taken, version_of}
use Rattle.congee.specs.protocol.Steps.{after_retire, quiet, answered, finished, decided, PhaseStepped}
use Rattle.congee.specs.Keys.{key_bytes, IsMapOf}
use Rattle.congee.specs.Notes.{Note}
use Rattle.congee.specs.protocol.Protocol.{IsCall, Known}
use Rattle.congee.specs.protocol.Answers.{Decides, StepAnswers, reply_in}
use Rattle.congee.specs.protocol.Play.{Question, Unasked, Asked, Replied, Flight, Pending, Decided, Over, value_answered, resolved, Heeds, Watched, PendingMoves, heeding, flight_in, IsOfPoint}
use Rattle.congee.proofs.lemmas.Graft.{on_test}
use Rattle.congee.proofs.lemmas.Keys.{standing_same, standing_changed}
use Rattle.congee.proofs.lemmas.protocol.Shapes.{Ripe, ripe_at_work, StepShape, GoesOn, Skips, Wonders, Stops, Replies, Takes, quiet_shape, goes_to_work, again_shape, shape_at, answers, checks, reads, versions, if_taken, misses_at, halts, leaf_made, greater_made, top_made, beside_made, lesser_made, one_upgraded, top_upgraded, above_upgraded, both_upgraded, unwinds, at_old, change_shape, given_shape, given_new_shape_at}

-- the call is on its key
call_key : {V : Type 0} (k : ℕ) (kind : Kind V) (given found : Option V) (c : Call V) → IsCall k kind given found c → key_of c ≡ k
call_key k Insert None found c e = absurd e
call_key k Insert (Some v) found c e = ap key_of e
call_key k ComputePresent given None c e = ap key_of e
call_key k ComputePresent given (Some v) c e = ap key_of e
call_key k ComputeInsert None found c e = absurd e
call_key k ComputeInsert (Some v) found c e = ap key_of e
call_key k _ given found c e = ap key_of e

-- a step that decides answers as the finite map that stands
record Answered {V : Type 0} (same : V → V → Bool) (k : ℕ) (kind : Kind V) (given : Option V) (m : Pairs V) (r : Reply V) (h' : ℕ → Node V) : Type 0 where
  next : Pairs V
  stands : IsMapOf h' next
  call : Call V
  is_call : IsCall k kind given (get m k) call
  reply : reply_on same call (get m k) ≡ r
  answer : ◌≡◌ {A = Reply V × Pairs V} (answer same m call) (r, next)

answered_on : {V : Type 0} (same : V → V → Bool) (k : ℕ) (kind : Kind V) (given : Option V) (h : ℕ → Node V) (r : Reply V) (h' : ℕ → Node V) (m : Pairs V)
    → k < 2 ^ 64 → Decides same k kind given h r h' → IsMapOf h m → Answered same k kind given m r h'
answered_on {V} same k kind given h r h' m p d s =
    let n : Pairs V = set_at m k d.after in
    let was : get m k ≡ d.found = s.at k p ∙ d.before in
    let here : get (set_at m k d.after) k ≡ d.after = get-set_at_here m k d.after in
    let apart : (q : ℕ) → q ≢ k → get (set_at m k d.after) q ≡ get m q = get-set_at_apart m k d.after in
    let c : Call V = d.settles.call in
    let kc : key_of d.settles.call ≡ k = call_key k kind given d.found d.settles.call d.settles.is_call in
    let was_at : get m (key_of d.settles.call) ≡ d.found = (let P : ℕ → Type 0 = λ x. get m x ≡ d.found in subst P (sym kc) was) in
    let now_at : get (set_at m k d.after) (key_of d.settles.call) ≡ leaves same d.settles.call d.found = (let P : ℕ → Type 0 = λ x. get (set_at m k d.after) x ≡ leaves same d.settles.call d.found in subst P (sym kc) (here ∙ sym d.settles.left)) in
    let apart_at : (q : ℕ) → q ≢ key_of d.settles.call → get (set_at m k d.after) q ≡ get m q = (let P : ℕ → Type 0 = λ x. (q : ℕ) → q ≢ x → get (set_at m k d.after) q ≡ get m q in subst P (sym kc) apart) in
    record {
      next = set_at m k d.after;
      stands = standing_changed h h' m (set_at m k d.after) k p d.rest (here ∙ sym d.now) apart s;
      call = d.settles.call;
      is_call = (let P : Option V → Type 0 = λ x. IsCall k kind given x d.settles.call in subst P (sym was) d.settles.is_call);
      reply = ap (reply_on same d.settles.call) was ∙ d.settles.reply;
      answer = (let P : Reply V → Type 0 = λ x. ◌≡◌ {A = Reply V × Pairs V} (answer same m d.settles.call) (x, set_at m k d.after) in
          subst P d.settles.reply (answer_at same m (set_at m k d.after) d.settles.call d.found was_at now_at apart_at));
    }

-- a call with a closure that gave its answer found what it was asked about
heeds : {V : Type 0} (same : V → V → Bool) (k : ℕ) (kind : Kind V) (given found : Option V) (c : Call V) (q : Question V) (r : Reply V) → IsCall k kind given found c → reply_on same c found ≡ r → Ripe r q → Heeds kind found q
heeds same k Get given found c q r i e f = tt
heeds same k Insert given found c q r i e f = tt
heeds same k Remove given found c q r i e f = tt
heeds same k ComputePresent given None c q r i e f = tt
heeds {V} same k ComputePresent given (Some x) c q r i e f =
    let P : Call V → Type 0 = λ y. reply_on same y (Some x) ≡ r in
    let z : reply_on same (call.ComputePresent k given) (Some x) ≡ r = subst P i e in
    let R : Reply V → Type 0 = λ y. Ripe y q in subst R (sym z) f
heeds same k ComputeInsert None found c q r i e f = absurd i
heeds {V} same k ComputeInsert (Some v) found c q r i e f =
    let P : Call V → Type 0 = λ y. reply_on same y found ≡ r in
    let z : reply_on same (call.ComputeInsert k v) found ≡ r = subst P i e in
    let R : Reply V → Type 0 = λ y. Ripe y q in subst R (sym z) f
heeds same k (Exchange x) given found c q r i e f = tt

module _ {C V : Type 0} (same : V → V → Bool) (k : ℕ) (kind : Kind V) (v v1 v' : Option V) (q : Question V) (h h' : ℕ → Node V) (m : Pairs V) (p : k < 2 ^ 64) (s : IsMapOf h m) where
  -- some map stands after the step, and the step is one of a call that had not taken effect
  abbrev pub Out : NextPhase C V → Type 0
  Out t = (m' : Pairs V) × IsMapOf h' m' × PendingMoves same k kind v1 q m t.report.decided t.report.outcome (flight_in k kind v' t.phase) m'

  -- some map stands after a step that answers as the map, and it is one of a call that had not taken effect
  abbrev pub Then : NextPhase C V → Type 0
  Then t = StepAnswers same k kind v h t h' → Out t

  replied : (r : Reply V) (t : NextPhase C V) → t ≡ answered r → v1 ≡ v → Ripe r q → Then t
  replied r t u o f = subst Then (sym u) (λ x.
      let e : Some r ≡ Some x.0 = x.1 in
      let y : Answered same k kind v m x.0 h' = answered_on same k kind v h x.0 h' m p x.2 s in
      let P : Option V → Type 0 = λ x. IsCall k kind x (get m k) y.call in
      let rr : r ≡ x.0 = cc in
      (y.next, y.stands, (y.call, x.0, subst P (sym o) y.is_call, heeds same k kind v (get m k) y.call q r y.is_call (y.reply ∙ sym rr) f, y.answer, (rr, refl))))

  takes : (st : Phase C V) (r : Reply V) → flight_in k kind v' st ≡ Decided r → reply_in st ≡ Some r → v1 ≡ v → Ripe r q → Then (decided st)
  takes st r f g o fa x =
      let y : Answered same k kind v m x.0 h' = answered_on same k kind v h x.0 h' m p x.2 s in
      let P : Option V → Type 0 = λ x. IsCall k kind x (get m k) y.call in
      let z : Some r ≡ Some x.0 = sym g ∙ x.1 in
      let rr : r ≡ x.0 = cc in
      (y.next, y.stands, (y.call, x.0, subst P (sym o) y.is_call, heeds same k kind v (get m k) y.call q r y.is_call (y.reply ∙ sym rr) fa, y.answer, f ∙ ap Decided rr))

  from_shape : (t : NextPhase C V) → StepShape k kind v v1 v' q t → StepAnswers same k kind v h t h' → Out t
  from_shape t (GoesOn st q' e f c) = subst Then (sym e) (λ x. (m, standing_same h h' m x s, ((q', c, f), refl)))
  from_shape t (Skips st q' e f c) = subst Then (sym e) (λ x. (m, standing_same h h' m x s, ((q', c, f), refl)))
  from_shape t (Wonders st o e w f) = subst Then (sym e) (λ x. (m, standing_same h h' m x s, ((w, f), refl)))
  from_shape t (Stops r e) = subst Then (sym e) (λ x. (m, standing_same h h' m x s, (refl, refl)))
  from_shape t (Replies r e o f) = replied r t e o f
  from_shape t (Takes st r e f g o fa) = subst Then (sym e) (takes st r f g o fa)

module _ {C V : Type 0} (same : V → V → Bool) (k : ℕ) (kind : Kind V) (v v1 v' : Option V) (h h' : ℕ → Node V) (m : Pairs V) (p : k < 2 ^ 64) (s : IsMapOf h m) where
  -- a call that took effect goes on with its reply
  pub settled : (r : Reply V) (st : Phase C V) (t : NextPhase C V) → t ≡ quiet st → flight_in k kind v' st ≡ Decided r → StepAnswers same k kind v h t h'
      → (m' : Pairs V) × IsMapOf h' m' × Watched same (Decided r) m None t.report (flight_in k kind v' t.phase) m'
  settled r st t e f =
      let P : NextPhase C V → Type 0 = λ z. StepAnswers same k kind v h z h' → (m' : Pairs V) × IsMapOf h' m' × Watched same (Decided r) m None z.report (flight_in k kind v' z.phase) m' in
      subst P (sym e) (λ x. (m, standing_same h h' m x s, (refl, f, refl)))

  -- a call that took effect and ends with its reply is watched to its end
  pub ends : (r : Reply V) (t : NextPhase C V) → t ≡ finished r → StepAnswers same k kind v h t h'
      → (m' : Pairs V) × IsMapOf h' m' × Watched same (Decided r) m None t.report (flight_in k kind v' t.phase) m'
  ends r t e =
      let P : NextPhase C V → Type 0 = λ z. StepAnswers same k kind v h z h' → (m' : Pairs V) × IsMapOf h' m' × Watched same (Decided r) m None z.report (flight_in k kind v' z.phase) m' in
      subst P (sym e) (λ x. (m, standing_same h h' m x s, (refl, (refl, refl), refl)))

  -- a call that is over and stays so is watched as over, with the map as it was
  pub rests : (t : NextPhase C V) → t ≡ quiet Ended → StepAnswers same k kind v h t h'
      → (m' : Pairs V) × IsMapOf h' m' × Watched same Over m None t.report (flight_in k kind v' t.phase) m'
  rests t e =
      let P : NextPhase C V → Type 0 = λ z. StepAnswers same k kind v h z h' → (m' : Pairs V) × IsMapOf h' m' × Watched same Over m None z.report (flight_in k kind v' z.phase) m' in
      subst P (sym e) (λ x. (m, standing_same h h' m x s, (refl, refl, refl)))

-- no question is open
abbrev Closed : {V : Type 0} → Question V → Type 0
Closed Unasked = Unit {0}
Closed (Asked o) = ⊥
Closed (Replied o) = Unit {0}

closed : {V : Type 0} (r : Reply V) → Closed (heeding r)
closed (reply.ComputePresent None) = tt
closed (reply.ComputePresent (Some x)) = tt
closed _ = tt

module _ {C V : Type 0} (number : C → ℕ) (same : V → V → Bool) (always : Bool) (most : ℕ) (why : NodeType → Refusal → Type 0) (i : ℕ) (a : ℕ → Note) (h : ℕ → Node V) (root : C) (k : ℕ) (kind : Kind V)
    (fail : Bool) (told : Option (Option V)) (v v' : Option V) (t : NextPhase C V) (h' : ℕ → Node V) (p : k < 2 ^ 64) (m : Pairs V) (st : IsMapOf h m) where
  -- some map stands after the step, and the watch allows the step
  abbrev pub Next : Flight V → Type 0
  Next f = (m' : Pairs V) × IsMapOf h' m' × Watched same f m told t.report (flight_in k kind v' t.phase) m'

  by_shape : StepAnswers same k kind v h t h' → StepShape k kind v v v' Unasked t → Next (Pending k kind v Unasked)
  by_shape n x = from_shape same k kind v v v' Unasked h h' m p st t x n

  by_answer : (o : Option V) → StepAnswers same k kind v h t h' → StepShape k kind v (value_answered kind (Asked o) told v) v' (resolved kind (Asked o) told) t → Next (Pending k kind v (Asked o))
  by_answer o n x = from_shape same k kind v (value_answered kind (Asked o) told v) v' (resolved kind (Asked o) told) h h' m p st t x n

  -- a call at work on its value, with its closure's answer or without a closure
  by_state : (q : Question V) → Closed q → StepAnswers same k kind v h t h' → StepShape k kind v v v' q t → Next (Pending k kind v q)
  by_state Unasked u n x = from_shape same k kind v v v' Unasked h h' m p st t x n
  by_state (Asked o) u n x = absurd u
  by_state (Replied o) u n x = from_shape same k kind v v v' (Replied o) h h' m p st t x n

  by_work : (r : Reply V) → StepAnswers same k kind v h t h' → StepShape k kind v v v' (heeding r) t → Next (Pending k kind v (heeding r))
  by_work r n x = by_state (heeding r) (closed r) n x

  -- a node was handed over, and the next one or the last lock follows
  hands_on : (r : Reply V) (next : Option C) (last : C) → StepAnswers same k kind v h t h' → t ≡ after_retire next last r → (m' : Pairs V) × IsMapOf h' m' × Watched same (Decided r) m None t.report (flight_in k kind v' t.phase) m'
  hands_on r None last n e = settled same k kind v v v' h h' m p st r (Unlock last r) t e refl n
  hands_on r (Some c) last n e = settled same k kind v v v' h h' m p st r (Obsolete c None last r) t e refl n

  -- every step
  pub watched : (s : Phase C V) → IsOfPoint (flight_in k kind v s) → Known number same always i a h k (key_bytes k) kind v s → PhaseStepped number same always most why root (key_bytes k) kind fail told v s h v' t h'
      → StepAnswers same k kind v h t h' → Next (flight_in k kind v s)
  watched New pf c g n = by_shape n (shape_at number k kind v v' g.1 Unasked _ t g.2 (versions number k kind v v' g.1 Unasked root None root (version_of (h (number root)))))
  watched (Version above x) pf c g n = by_shape n (shape_at number k kind v v' g.1 Unasked _ t g.2 (versions number k kind v v' g.1 Unasked root above x (version_of (h (number x)))))
  watched (Read above stamp) pf c g n = by_shape n (shape_at number k kind v v' g.1 Unasked _ t g.2.2 (reads number k kind v v' g.1 Unasked root above stamp g.2.0))
  watched (Check s x) pf c g n = by_shape n (if_taken number k kind v v' g.1 Unasked _ root _ t g.2 (λ y. checks number k kind v v' g.1 Unasked always same v s x t y))
  watched (CheckUncopied stamp) pf c g n = by_shape n (if_taken number k kind v v' g.1 Unasked _ root _ t g.2 (λ y. halts number k kind v v' g.1 Unasked _ t y))
  watched (CheckMiss q stamp common byte) pf c g n = by_shape n (if_taken number k kind v v' g.1 Unasked _ root _ t g.2 (λ y. shape_at number k kind v v' g.1 Unasked _ t y (misses_at number k kind v v' g.1 Unasked q stamp common byte)))
  watched (CheckDown q stamp x) pf c g n = by_shape n (if_taken number k kind v v' g.1 Unasked _ root _ t g.2 (λ y. shape_at number k kind v v' g.1 Unasked _ t y (quiet_shape number k kind v v' g.1 Unasked (Version _ x) refl)))
  watched (CheckOld q s old) pf c g n = by_shape n (if_taken number k kind v v' g.1 Unasked _ root _ t g.2 (λ y. at_old k v v v' g.1 Unasked always same kind v s old t c.3 y))
  watched (MakeLeaf s) pf c g n = by_shape n (leaf_made number k kind v v' g.0 Unasked s h (key_bytes k) g.1.0 h' t c.3 g.1.1)
  watched (MakeGreater s q leaf) pf c g n = by_shape n (greater_made number k kind v v' g.0 Unasked s q leaf h (key_bytes k) g.1.0 h' t c.4 g.1.1)
  watched (MakeTop q stamp common byte) pf c g n = by_shape n (top_made number k kind v v' g.0 Unasked q stamp common byte h (key_bytes k) g.1.0 h' t g.1.1)
  watched (MakeBeside q stamp common byte top) pf c g n = by_shape n (beside_made number k kind v v' g.0 Unasked q stamp common byte top h (key_bytes k) g.1.0 h' t c.5 g.1.1)
  watched (MakeLesser s q top r) pf c g n = by_work r n (lesser_made number k kind v v' g.0 (heeding r) s q top r h (key_bytes k) g.1.0 h' t (ripe_at_work r) g.1.1)
  watched (AskOld s old) pf c g n = by_answer (Some old) n (given_shape always same k kind s old told v v' t c.2 g.1)
  watched (AskNew plan) pf c g n = by_answer None n (given_new_shape_at k kind plan told v v' t c.1 g.1)
  watched (Confirm stamp r) pf c g n = by_work r n (if_taken number k kind v v' g.1 (heeding r) _ root _ t g.2 (λ y. shape_at number k kind v v' g.1 (heeding r) _ t y (answers number k kind v v' g.1 (heeding r) r (ripe_at_work r))))
  watched (CheckAbove q one r) pf c g n = by_work r n (on_test (is_taken (h (number q.node)) q.version)
      (λ y. shape_at number k kind v v' g.0 (heeding r) _ t (g.1.goes_on y).1 (goes_to_work number k kind v v' g.0 (heeding r) r (UpgradeHere one r) (ripe_at_work r) refl))
      (λ y. shape_at number k kind v v' g.0 (heeding r) _ t (g.1.goes_back y).1 (again_shape number k kind v v' g.0 (heeding r) root)))
  watched (UpgradeHere one r) pf c g n = by_work r n (one_upgraded number k kind v v' g.0 (heeding r) root one r h g.1.0 h' t (ripe_at_work r) g.1.2)
  watched (ChangeHere one r) pf c g n = by_work r n (Takes (Unlock one.at.node r) r g.2 refl refl refl (ripe_at_work r))
  watched (UpgradeTop top two r) pf c g n = by_work r n (top_upgraded number k kind v v' g.0 (heeding r) root top two r h g.1.0 h' t (ripe_at_work r) g.1.2)
  watched (UpgradeAbove two r) pf c g n = by_work r n (above_upgraded number k kind v v' g.0 (heeding r) root two r h g.1.0 h' t (ripe_at_work r) g.1.2)
  watched (UpgradeBelow two r) pf c g n = by_work r n (both_upgraded number k kind v v' g.0 (heeding r) two r h g.1.0 h' t (ripe_at_work r) g.1.2)
  watched (ChangeAbove two r) pf c g n = by_work r n (change_shape k kind v v' two r two.change t g.2)
  watched (Obsolete x next q r) pf c g n = settled same k kind v v v' h h' m p st r (Retire x next q r) t g.2 refl n
  watched (Retire x next q r) pf c g n = hands_on r next q n g.2
  watched (UnlockBelow x q r) pf c g n = settled same k kind v v v' h h' m p st r (Unlock q r) t g.2 refl n
  watched (Unlock x r) pf c g n = ends same k kind v v v' h h' m p st r t g.2 n
  watched (Unwind x next e) pf c g n = by_shape n (unwinds number k kind v v' g.0 Unasked root next e t g.2)
  watched (Scan s) pf c g n = absurd pf
  watched Ended pf c g n = rests same k kind v v v' h h' m p st t g.2 n
