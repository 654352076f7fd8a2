-- What a worker asked for, beside its call as it is watched: they agree from step to step, and give the call's entry.
use Rattle.std.proofs.Common.{◌≡◌, ℕ, Bool, true, false, refl, sym, ◌∙◌, ap, subst}
use Rattle.std.specs.Prelude.{Option, None, Some, ◌&&◌}
use Rattle.judge.specs.declared.journal.Call.{Call as Entered}
use Rattle.judge.specs.declared.journal.Call.TheVariants as call
use Rattle.judge.specs.declared.journal.Reply.{Reply}
use Rattle.judge.specs.declared.journal.Reply.TheVariants as reply
use Rattle.judge.specs.Answer.{reply_on}
use Rattle.congee.specs.declared.protocol.machine.Outcome.{Outcome as Moved}
use Rattle.congee.specs.declared.protocol.machine.Outcome.TheVariants as moved
use Rattle.congee.specs.declared.protocol.op.Op.{Op as Point}
use Rattle.congee.specs.declared.protocol.op.Op.TheVariants as point
use Rattle.congee.specs.declared.protocol.phase.Kind.{Kind}
use Rattle.congee.specs.declared.protocol.phase.Kind.TheVariants as kind
use Rattle.congee.specs.declared.protocol.phase.Phase.{Phase}
use Rattle.congee.specs.declared.protocol.phase.Phase.TheVariants as phase
use Rattle.congee.specs.protocol.Play.{Flight, Pending, Decided, Question, Unasked, Asked, Replied, Heeds, value_answered, resolved, after_none, Carries, Undecided, parts, flight_in, heeding, begun, flight}
use Rattle.congee.specs.protocol.Protocol.{Asking, IsCall}
use Rattle.congee.specs.protocol.State.{is_asking, is_pending, may_write}
use Rattle.congee.specs.protocol.Answers.{reply_in}
use Rattle.joint.specs.declared.id.Id.{Id}
use Rattle.joint.specs.declared.engine.request.Request.{Request}
use Rattle.joint.specs.declared.steps.Op.{Op}
use Rattle.joint.specs.declared.steps.Op.TheVariants.{Get, Insert, Remove, ComputePresent, ComputeInsert, Exchange, Range, RangeInclusive}
use Rattle.joint.specs.declared.steps.Target.TheVariants.{Tree}
use Rattle.joint.specs.Names.{root}
use Rattle.joint.specs.engine.Journaling.{HasAnswer, call_of}
use Rattle.joint.specs.engine.Log.{asked, with_answer, answered_if}
use Rattle.joint.specs.Reports.{target}
use Rattle.joint.specs.world.World.{value_of, IsOnKey, IsRequestOf, IsQuestionOf, IsAsked}

module _ {V : Type 0} where
  -- whether a question was asked, and has no answer yet
  abbrev pub is_asked : Question V → Bool
  is_asked (Asked found) = true
  is_asked _ = false

  -- whether a call that is watched so asks
  abbrev pub asks : Flight V → Bool
  asks (Pending k kind v q) = is_asked q
  asks _ = false

  -- whether it has yet to take effect, and may write then
  abbrev pub writes_on : Flight V → Bool
  writes_on (Pending k kind v q) = may_write kind
  writes_on _ = false

  -- the reply that it has, if it took effect
  abbrev pub replied : Flight V → Option (Reply V)
  replied (Decided r) = Some r
  replied _ = None

  heeds_none : (r : Reply V) → is_asked (heeding r) ≡ false
  heeds_none (reply.ComputePresent None) = refl
  heeds_none (reply.ComputePresent (Some p)) = refl
  heeds_none (reply.Get o) = refl
  heeds_none (reply.Insert o) = refl
  heeds_none (reply.Remove o) = refl
  heeds_none (reply.ComputeInsert o) = refl
  heeds_none (reply.Exchange o) = refl

  -- a call is watched as asking just where its phase asks
  pub phase_asks : (k : ℕ) (kind : Kind V) (v : Option V) (p : Phase Id V) → asks (flight_in k kind v p) ≡ is_asking p
  phase_asks k kind v (phase.Confirm at r) = heeds_none r
  phase_asks k kind v (phase.CheckAbove p one r) = heeds_none r
  phase_asks k kind v (phase.UpgradeHere one r) = heeds_none r
  phase_asks k kind v (phase.ChangeHere one r) = heeds_none r
  phase_asks k kind v (phase.MakeLesser s p g r) = heeds_none r
  phase_asks k kind v (phase.UpgradeTop g two r) = heeds_none r
  phase_asks k kind v (phase.UpgradeAbove two r) = heeds_none r
  phase_asks k kind v (phase.UpgradeBelow two r) = heeds_none r
  phase_asks k kind v (phase.ChangeAbove two r) = heeds_none r
  phase_asks k kind v _ = refl

  -- it may yet write just where its phase has not taken effect and its kind may write
  pub phase_writes : (k : ℕ) (kind : Kind V) (v : Option V) (p : Phase Id V) → writes_on (flight_in k kind v p) ≡ (is_pending p && may_write kind)
  phase_writes k kind v phase.Ended = refl
  phase_writes k kind v _ = refl

  -- it has the reply that its phase has
  pub phase_replied : (k : ℕ) (kind : Kind V) (v : Option V) (p : Phase Id V) → replied (flight_in k kind v p) ≡ reply_in p
  phase_replied k kind v phase.Ended = refl
  phase_replied k kind v _ = refl

  -- a request that takes its answer is of the same call with the value that it has then
  answer_none : (op : Op V) (answer : Option (Option V)) (kd : Kind V) (v : Option V) (p : Point V) → target op ≡ Tree p → (parts p).1 ≡ kd → Asking kd → value_of op answer ≡ v
      → value_of op (with_answer (Some None) (record { op = op; answer = answer })).answer ≡ (value_answered kd (Asked None) (Some None) v)
  answer_none (ComputePresent k) answer kd v p t e a q =
      let i : point.ComputePresent k ≡ p = cc in
      let P : Kind V → Type 0 = λ x. None ≡ value_answered x (Asked None) (Some None) v in
      subst P (ap (λ (y : Point V). (parts y).1) i ∙ e) refl
  answer_none (ComputeInsert k) answer kd v p t e a q =
      let i : point.ComputeInsert k ≡ p = cc in
      let P : Kind V → Type 0 = λ x. value_of (ComputeInsert k) answer ≡ value_answered x (Asked None) (Some None) v in
      subst P (ap (λ (y : Point V). (parts y).1) i ∙ e) q
  answer_none (Get k) answer kd v p t e a q = absurd (let i : point.Get k ≡ p = cc in subst (λ (x : Kind V). Asking x) (sym (ap (λ (y : Point V). (parts y).1) i ∙ e)) a)
  answer_none (Insert k w) answer kd v p t e a q = absurd (let i : point.Insert k w ≡ p = cc in subst (λ (x : Kind V). Asking x) (sym (ap (λ (y : Point V). (parts y).1) i ∙ e)) a)
  answer_none (Remove k) answer kd v p t e a q = absurd (let i : point.Remove k ≡ p = cc in subst (λ (x : Kind V). Asking x) (sym (ap (λ (y : Point V). (parts y).1) i ∙ e)) a)
  answer_none (Exchange k old new) answer kd v p t e a q = absurd (let i : point.Exchange k old new ≡ p = cc in subst (λ (x : Kind V). Asking x) (sym (ap (λ (y : Point V). (parts y).1) i ∙ e)) a)
  answer_none (Range start end size) answer kd v p t e a q = absurd (let i : point.Range start end size ≡ p = cc in subst (λ (x : Kind V). Asking x) (sym (ap (λ (y : Point V). (parts y).1) i ∙ e)) a)
  answer_none (RangeInclusive start last size) answer kd v p t e a q = absurd (let i : point.RangeInclusive start last size ≡ p = cc in subst (λ (x : Kind V). Asking x) (sym (ap (λ (y : Point V). (parts y).1) i ∙ e)) a)
  answer_none _ answer kd v p t e a q = absurd (cc t)

  answer_some : (op : Op V) (x : V) (kd : Kind V) (p : Point V) → target op ≡ Tree p → (parts p).1 ≡ kd → Asking kd → value_of op (Some (Some x)) ≡ Some x
  answer_some (ComputePresent k) x kd p t e a = refl
  answer_some (ComputeInsert k) x kd p t e a = refl
  answer_some (Get k) x kd p t e a = absurd (let i : point.Get k ≡ p = cc in subst (λ (y : Kind V). Asking y) (sym (ap (λ (y : Point V). (parts y).1) i ∙ e)) a)
  answer_some (Insert k w) x kd p t e a = absurd (let i : point.Insert k w ≡ p = cc in subst (λ (y : Kind V). Asking y) (sym (ap (λ (y : Point V). (parts y).1) i ∙ e)) a)
  answer_some (Remove k) x kd p t e a = absurd (let i : point.Remove k ≡ p = cc in subst (λ (y : Kind V). Asking y) (sym (ap (λ (y : Point V). (parts y).1) i ∙ e)) a)
  answer_some (Exchange k old new) x kd p t e a = absurd (let i : point.Exchange k old new ≡ p = cc in subst (λ (y : Kind V). Asking y) (sym (ap (λ (y : Point V). (parts y).1) i ∙ e)) a)
  answer_some (Range start end size) x kd p t e a = absurd (let i : point.Range start end size ≡ p = cc in subst (λ (y : Kind V). Asking y) (sym (ap (λ (y : Point V). (parts y).1) i ∙ e)) a)
  answer_some (RangeInclusive start last size) x kd p t e a = absurd (let i : point.RangeInclusive start last size ≡ p = cc in subst (λ (y : Kind V). Asking y) (sym (ap (λ (y : Point V). (parts y).1) i ∙ e)) a)
  answer_some _ x kd p t e a = absurd (cc t)

  -- the question is settled by no value too, but where one is wanted
  none_settles : (op : Op V) (answer : Option (Option V)) (kd : Kind V) (found : Option V) (p : Point V) → target op ≡ Tree p → (parts p).1 ≡ kd → Asking kd
      → IsQuestionOf kd (after_none kd found) (with_answer (Some None) (record { op = op; answer = answer })).answer
  none_settles (ComputePresent k) answer kd found p t e a =
      let i : point.ComputePresent k ≡ p = cc in
      let P : Kind V → Type 0 = λ x. IsQuestionOf x (after_none x found) (Some None) in
      subst P (ap (λ (y : Point V). (parts y).1) i ∙ e) refl
  none_settles (ComputeInsert k) answer kd found p t e a =
      let i : point.ComputeInsert k ≡ p = cc in
      let P : Kind V → Type 0 = λ x. IsQuestionOf x (after_none x found) answer in
      subst P (ap (λ (y : Point V). (parts y).1) i ∙ e) tt
  none_settles (Get k) answer kd found p t e a = absurd (let i : point.Get k ≡ p = cc in subst (λ (x : Kind V). Asking x) (sym (ap (λ (y : Point V). (parts y).1) i ∙ e)) a)
  none_settles (Insert k w) answer kd found p t e a = absurd (let i : point.Insert k w ≡ p = cc in subst (λ (x : Kind V). Asking x) (sym (ap (λ (y : Point V). (parts y).1) i ∙ e)) a)
  none_settles (Remove k) answer kd found p t e a = absurd (let i : point.Remove k ≡ p = cc in subst (λ (x : Kind V). Asking x) (sym (ap (λ (y : Point V). (parts y).1) i ∙ e)) a)
  none_settles (Exchange k old new) answer kd found p t e a = absurd (let i : point.Exchange k old new ≡ p = cc in subst (λ (x : Kind V). Asking x) (sym (ap (λ (y : Point V). (parts y).1) i ∙ e)) a)
  none_settles (Range start end size) answer kd found p t e a = absurd (let i : point.Range start end size ≡ p = cc in subst (λ (x : Kind V). Asking x) (sym (ap (λ (y : Point V). (parts y).1) i ∙ e)) a)
  none_settles (RangeInclusive start last size) answer kd found p t e a = absurd (let i : point.RangeInclusive start last size ≡ p = cc in subst (λ (x : Kind V). Asking x) (sym (ap (λ (y : Point V). (parts y).1) i ∙ e)) a)
  none_settles _ answer kd found p t e a = absurd (cc t)

  -- the answer that the step of a call takes
  pub record TakesAnswer (o : Option (Request V)) (k : ℕ) (kd : Kind V) (v : Option V) (u : Question V) : Type 0 where
    pub request : Request V
    pub is : o ≡ Some request
    pub of : IsRequestOf request k kd v
    pub question : IsQuestionOf kd u request.answer

  -- a request that takes the answer of a step is of the call with its value and question after that step
  pub answered_is : (q : Request V) (k : ℕ) (kd : Kind V) (v : Option V) (u : Question V) (answer : Option (Option V)) → IsRequestOf q k kd v → IsQuestionOf kd u q.answer
      → TakesAnswer (answered_if (is_asked u) answer (Some q)) k kd (value_answered kd u answer v) (resolved kd u answer)
  answered_is q k kd v Unasked answer r a = record { request = q; is = refl; of = r; question = a }
  answered_is q k kd v (Replied o) answer r a = record { request = q; is = refl; of = r; question = a }
  answered_is q k kd v (Asked o) None r a = record { request = q; is = refl; of = r; question = a }
  answered_is q k kd v (Asked o) (Some None) r a = record {
    request = with_answer (Some None) q;
    is = refl;
    of = record { point = r.point; on_tree = r.on_tree; on_key = r.on_key; key = r.key; same_kind = r.same_kind; value = answer_none q.op q.answer kd v r.point r.on_tree r.same_kind a r.value };
    question = none_settles q.op q.answer kd o r.point r.on_tree r.same_kind a;
  }
  answered_is q k kd v (Asked o) (Some (Some x)) r a = record {
    request = with_answer (Some (Some x)) q;
    is = refl;
    of = record { point = r.point; on_tree = r.on_tree; on_key = r.on_key; key = r.key; same_kind = r.same_kind; value = answer_some q.op x kd r.point r.on_tree r.same_kind a };
    question = refl;
  }

  -- its entry's call is the one that the map answers
  on_present_call : (k : ℕ) (answer : Option (Option V)) (same : V → V → Bool) (v found : Option V) (c : Entered V) → value_of (ComputePresent k) answer ≡ v → IsCall k kind.ComputePresent v found c → call_of (ComputePresent k) answer (reply_on same c found) ≡ Some c
  on_present_call k answer same v None c q i =
      let P : Entered V → Type 0 = λ x. call_of (ComputePresent k) answer (reply_on same x None) ≡ Some x in subst P (sym i) refl
  on_present_call k answer same v (Some w) c q i =
      let P : Entered V → Type 0 = λ x. call_of (ComputePresent k) answer (reply_on same x (Some w)) ≡ Some x in
      subst P (sym i) (ap (λ y. Some (call.ComputePresent k y)) q)

  on_insert_call : (k : ℕ) (answer : Option (Option V)) (same : V → V → Bool) (v found : Option V) (c : Entered V) → value_of (ComputeInsert k) answer ≡ v → IsCall k kind.ComputeInsert v found c → call_of (ComputeInsert k) answer (reply_on same c found) ≡ Some c
  on_insert_call k None same None found c q i = absurd i
  on_insert_call k None same (Some w) found c q i = absurd (cc q)
  on_insert_call k (Some None) same None found c q i = absurd i
  on_insert_call k (Some None) same (Some w) found c q i = absurd (cc q)
  on_insert_call k (Some (Some x)) same None found c q i = absurd (cc q)
  on_insert_call k (Some (Some x)) same (Some w) found c q i = let e : x ≡ w = cc in ap (λ y. Some (call.ComputeInsert k y)) e ∙ ap Some (sym i)

  call_by : (op : Op V) (answer : Option (Option V)) (same : V → V → Bool) (p : Point V) (v found : Option V) (c : Entered V) → target op ≡ Tree p → IsOnKey p → value_of op answer ≡ v → IsCall (parts p).0 (parts p).1 v found c
      → call_of op answer (reply_on same c found) ≡ Some c
  call_by (Get k) answer same p v found c t n q i = let e : point.Get k ≡ p = cc in let j = subst (λ (x : Point V). IsCall (parts x).0 (parts x).1 v found c) (sym e) i in ap Some (sym j)
  call_by (Insert k w) answer same p v found c t n q i =
      let e : point.Insert k w ≡ p = cc in
      let P : Option V → Type 0 = λ x. IsCall k kind.Insert x found c in
      ap Some (sym (subst P (sym q) (subst (λ (x : Point V). IsCall (parts x).0 (parts x).1 v found c) (sym e) i)))
  call_by (Remove k) answer same p v found c t n q i = let e : point.Remove k ≡ p = cc in let j = subst (λ (x : Point V). IsCall (parts x).0 (parts x).1 v found c) (sym e) i in ap Some (sym j)
  call_by (ComputePresent k) answer same p v found c t n q i =
      let e : point.ComputePresent k ≡ p = cc in on_present_call k answer same v found c q (subst (λ (x : Point V). IsCall (parts x).0 (parts x).1 v found c) (sym e) i)
  call_by (ComputeInsert k) answer same p v found c t n q i =
      let e : point.ComputeInsert k ≡ p = cc in on_insert_call k answer same v found c q (subst (λ (x : Point V). IsCall (parts x).0 (parts x).1 v found c) (sym e) i)
  call_by (Exchange k old new) answer same p v found c t n q i =
      let e : point.Exchange k old new ≡ p = cc in
      let j : c ≡ call.Exchange k old v = subst (λ (x : Point V). IsCall (parts x).0 (parts x).1 v found c) (sym e) i in
      ap (λ y. Some (call.Exchange k old y)) q ∙ ap Some (sym j)
  call_by (Range start end size) answer same p v found c t n q i = absurd (let e : point.Range start end size ≡ p = cc in subst (λ (x : Point V). IsOnKey x) (sym e) n)
  call_by (RangeInclusive start last size) answer same p v found c t n q i = absurd (let e : point.RangeInclusive start last size ≡ p = cc in subst (λ (x : Point V). IsOnKey x) (sym e) n)
  call_by _ answer same p v found c t n q i = absurd (cc t)

  -- the call that a request makes with the reply is the one that the map answers
  pub request_call : (q : Request V) (same : V → V → Bool) (k : ℕ) (kd : Kind V) (v found : Option V) (c : Entered V) → IsRequestOf q k kd v → IsCall k kd v found c → call_of q.op q.answer (reply_on same c found) ≡ Some c
  request_call q same k kd v found c r i =
      let P : ℕ → Type 0 = λ x. IsCall x kd v found c in
      let Q : Kind V → Type 0 = λ x. IsCall (parts r.point).0 x v found c in
      call_by q.op q.answer same r.point v found c r.on_tree r.on_key r.value (subst Q (sym r.same_kind) (subst P (sym r.key) i))

  -- and where it is of a computed value, an answer was given
  answered_by : (op : Op V) (answer : Option (Option V)) (same : V → V → Bool) (p : Point V) (v found : Option V) (c : Entered V) (u : Question V) → target op ≡ Tree p → IsCall (parts p).0 (parts p).1 v found c
      → Heeds (parts p).1 found u → IsQuestionOf (parts p).1 u answer → HasAnswer op answer (reply_on same c found)
  answered_by (ComputePresent k) answer same p v found c u t i h a =
      let e : point.ComputePresent k ≡ p = cc in
      by found (subst (λ (x : Point V). IsCall (parts x).0 (parts x).1 v found c) (sym e) i) (subst (λ (x : Point V). Heeds (parts x).1 found u) (sym e) h) (subst (λ (x : Point V). IsQuestionOf (parts x).1 u answer) (sym e) a)
    where
      by : (o : Option V) → IsCall k kind.ComputePresent v o c → Heeds kind.ComputePresent o u → IsQuestionOf kind.ComputePresent u answer → HasAnswer (ComputePresent k) answer (reply_on same c o)
      by None i h a = let P : Entered V → Type 0 = λ x. HasAnswer (ComputePresent k) answer (reply_on same x None) in subst P (sym i) tt
      by (Some w) i h a =
          let P : Entered V → Type 0 = λ x. HasAnswer (ComputePresent k) answer (reply_on same x (Some w)) in
          subst P (sym i) (subst (λ x. IsQuestionOf kind.ComputePresent x answer) h a)
  answered_by (ComputeInsert k) answer same p v found c u t i h a =
      let e : point.ComputeInsert k ≡ p = cc in
      let h1 : u ≡ Replied found = subst (λ (x : Point V). Heeds (parts x).1 found u) (sym e) h in
      subst (λ x. IsQuestionOf kind.ComputeInsert x answer) h1 (subst (λ (x : Point V). IsQuestionOf (parts x).1 u answer) (sym e) a)
  answered_by _ answer same p v found c u t i h a = tt

  -- where the map answers the call, the request has what answer of a closure it wants
  pub request_answered : (q : Request V) (same : V → V → Bool) (k : ℕ) (kd : Kind V) (v found : Option V) (c : Entered V) (u : Question V) → IsRequestOf q k kd v → IsCall k kd v found c → Heeds kd found u → IsQuestionOf kd u q.answer
      → HasAnswer q.op q.answer (reply_on same c found)
  request_answered q same k kd v found c u r i h a =
      let P : ℕ → Type 0 = λ x. IsCall x kd v found c in
      let Q : Kind V → Type 0 = λ x. IsCall (parts r.point).0 x v found c in
      answered_by q.op q.answer same r.point v found c u r.on_tree (subst Q (sym r.same_kind) (subst P (sym r.key) i)) (subst (λ x. Heeds x found u) (sym r.same_kind) h) (subst (λ x. IsQuestionOf x u q.answer) (sym r.same_kind) a)

  -- a request as its call begins
  value_begins : (op : Op V) (p : Point V) → target op ≡ Tree p → IsOnKey p → value_of op None ≡ (parts p).2
  value_begins (Get k) p t n = let e : point.Get k ≡ p = cc in ap (λ (x : Point V). (parts x).2) e
  value_begins (Insert k w) p t n = let e : point.Insert k w ≡ p = cc in ap (λ (x : Point V). (parts x).2) e
  value_begins (Remove k) p t n = let e : point.Remove k ≡ p = cc in ap (λ (x : Point V). (parts x).2) e
  value_begins (ComputePresent k) p t n = let e : point.ComputePresent k ≡ p = cc in ap (λ (x : Point V). (parts x).2) e
  value_begins (ComputeInsert k) p t n = let e : point.ComputeInsert k ≡ p = cc in ap (λ (x : Point V). (parts x).2) e
  value_begins (Exchange k old new) p t n = let e : point.Exchange k old new ≡ p = cc in ap (λ (x : Point V). (parts x).2) e
  value_begins (Range start end size) p t n = absurd (let e : point.Range start end size ≡ p = cc in subst (λ (x : Point V). IsOnKey x) (sym e) n)
  value_begins (RangeInclusive start last size) p t n = absurd (let e : point.RangeInclusive start last size ≡ p = cc in subst (λ (x : Point V). IsOnKey x) (sym e) n)
  value_begins _ p t n = absurd (cc t)

  begins_as : (op : Op V) (p : Point V) → target op ≡ Tree p → IsOnKey p → IsAsked (asked op) (Pending (parts p).0 (parts p).1 (parts p).2 Unasked)
  begins_as op p t n = (record { op = op; answer = None }, refl, record { point = p; on_tree = t; on_key = n; key = refl; same_kind = refl; value = value_begins op p t n }, tt)

  -- a request as its call begins agrees with that call
  pub begins_asked : (op : Op V) (p : Point V) → target op ≡ Tree p → IsAsked (asked op) (flight (begun root p))
  begins_asked op (point.Range start end size) t = tt
  begins_asked op (point.RangeInclusive start last size) t = tt
  begins_asked op (point.Get k) t = begins_as op (point.Get k) t tt
  begins_asked op (point.Insert k v) t = begins_as op (point.Insert k v) t tt
  begins_asked op (point.Remove k) t = begins_as op (point.Remove k) t tt
  begins_asked op (point.ComputePresent k) t = begins_as op (point.ComputePresent k) t tt
  begins_asked op (point.ComputeInsert k) t = begins_as op (point.ComputeInsert k) t tt
  begins_asked op (point.Exchange k old new) t = begins_as op (point.Exchange k old new) t tt

  -- a step that doesn't decide leaves the request of a call that stays in flight as it took its answer
  carried : (o : Option (Request V)) (k : ℕ) (kd : Kind V) (v : Option V) (q q' : Question V) → TakesAnswer o k kd v q → Carries q q' → IsAsked o (Pending k kd v q')
  carried o k kd v q Unasked h c = (h.request, h.is, h.of, tt)
  carried o k kd v q (Replied x) h c = (h.request, h.is, h.of, subst (λ u. IsQuestionOf kd u h.request.answer) c h.question)
  carried o k kd v q (Asked x) h c = absurd c

  -- after a step that doesn't decide, a request that took its answer agrees with its call
  pub undecided_asked : (o : Option (Request V)) (k : ℕ) (kd : Kind V) (v : Option V) (q : Question V) (m : Moved V) (f' : Flight V) → TakesAnswer o k kd v q → Undecided k kd v q m f' → IsAsked o f'
  undecided_asked o k kd v q moved.Running f' h u = subst (λ (x : Flight V). IsAsked o x) (sym u.2) (carried o k kd v q u.0 h u.1)
  undecided_asked o k kd v q (moved.Asks x) f' h u = subst (λ (y : Flight V). IsAsked o y) (sym u.1) (h.request, h.is, h.of, u.0)
  undecided_asked o k kd v q (moved.Done r) f' h u = absurd u
  undecided_asked o k kd v q (moved.Refused e) f' h u = subst (λ (x : Flight V). IsAsked o x) (sym u) tt
  undecided_asked o k kd v q (moved.Found place key x) f' h u = absurd u
  undecided_asked o k kd v q (moved.Scanned count) f' h u = absurd u
