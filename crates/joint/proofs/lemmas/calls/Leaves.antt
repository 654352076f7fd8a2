-- How a step of a call takes a node out of the tree, and hands it over.
use Rattle.std.proofs.Common.{◌≡◌, ◌≢◌, ◌==◌, ◌<◌, ℕ, zero, suc, Bool, true, false, List, [], ◌∷◌, length, refl, sym, ◌∙◌, ap, subst, inl, inr, ◌⊎◌, arith}
use Rattle.std.specs.Prelude.{Option, None, Some, slice_get, if◌then◌else◌}
use Rattle.std.specs.List.{Contains}
use Rattle.std.proofs.lemmas.Bool.{cases_Bool, cases_eq, eqb-true, eqb-false, false≢true}
use Rattle.std.proofs.lemmas.Option.{slice_get_within}
use Rattle.crossbeam_epoch.specs.world.Machine.{place, with_store}
use Rattle.congee.specs.declared.protocol.machine.Machine.{Machine}
use Rattle.congee.specs.declared.protocol.machine.Move.{Move}
use Rattle.congee.specs.declared.protocol.phase.Phase.{Phase}
use Rattle.congee.specs.declared.protocol.phase.Phase.TheVariants.{Obsolete, Retire}
use Rattle.congee.specs.declared.protocol.run.Step.{Step as TreeStep}
use Rattle.congee.specs.declared.protocol.next_phase.NextPhase.{NextPhase}
use Rattle.judge.specs.declared.journal.Reply.{Reply}
use Rattle.congee.specs.Heap.{Node, Below}
use Rattle.congee.specs.Keys.{key_bytes}
use Rattle.congee.specs.Notes.{Note, Linked, Gone, is_published}
use Rattle.congee.specs.protocol.Answers.{Keeps}
use Rattle.congee.specs.protocol.Events.{SameBut}
use Rattle.congee.specs.protocol.Handing.{Leads, InTree, IsOut, is_handed_over, AreOneOrTwo, Due, Leaving, HandsAt, TakesAt, TakesNodes}
use Rattle.congee.specs.protocol.Holdings.{IsMade, TakenBy}
use Rattle.congee.specs.protocol.Play.{EachKnown, IsMoved, Settled}
use Rattle.congee.specs.protocol.Protocol.{AlsoOut, Known}
use Rattle.congee.specs.protocol.Steps.{PhaseStepped, after_retire}
use Rattle.congee.specs.protocol.State.{is_done, retiring}
use Rattle.congee.proofs.Laws.{IsTaken, taken_known}
use Rattle.joint.specs.declared.id.Id.{Id}
use Rattle.joint.specs.engine.Census.{taken_at}
use Rattle.joint.specs.nodes.Nodes.{Nodes, nodes, Refuses}
use Rattle.joint.specs.engine.Intact.{rested, resting}
use Rattle.joint.specs.engine.Laws.{CallLaws}
use Rattle.joint.specs.calls.Leaving.{HandsOver}
use Rattle.joint.specs.engine.Safety.{IsSafe, Walked, after_walk, retiring_at}
use Rattle.joint.specs.engine.Sound.{Guards, IsSecured, IsUnderWay}
use Rattle.joint.specs.nodes.View.{id_number}
use Rattle.joint.proofs.lemmas.world.Flights.{set_at}
use Rattle.joint.proofs.lemmas.engine.SecuredPlaces.{retiring_room}
use Rattle.joint.proofs.lemmas.world.Waiting.{is_taken, taken_is}

abbrev nobody : ℕ → List ℕ
nobody i = []

nothing : (n : ℕ) → Contains [] n → ⊥
nothing n c = let bad : c.0 < 0 = c.1 in omega (arith, bad)

itself : (n : ℕ) (ns : List ℕ) → Contains (n ∷ ns) n
itself n ns = (0, (let l : 0 < suc (length ns) = omega arith in l), refl)

-- whether a number is in a list
decide : (ns : List ℕ) (n : ℕ) → Contains ns n ⊎ (Contains ns n → ⊥)
decide [] n = inr (nothing n)
decide (a ∷ ns) n = elim (cases_eq a n) [
  | inl e ↦ inl (0, (let l : 0 < suc (length ns) = omega arith in l), e)
  | inr d ↦ elim (decide ns n) [
    | inl c ↦ inl (suc c.0, (let l : c.0 < length ns = c.1 in omega (arith, l)), c.2)
    | inr f ↦ inr (further d f)
  ]
]
  where
    further : (a ≢ n) → (Contains ns n → ⊥) → Contains (a ∷ ns) n → ⊥
    further d f (zero, l, e) = d e
    further d f (suc k, l, e) = f (k, (let z : suc k < suc (length ns) = l in omega (arith, z)), e)

-- of one number or two, the other one where there is one
rest : (ns : List ℕ) → AreOneOrTwo ns → (n : ℕ) → Contains ns n → (o : Option ℕ) × ((c : ℕ) → c ≢ n → Contains ns c → o ≡ Some c)
rest [] few n k = absurd few
rest (a ∷ []) few n (zero, l, e) = (None, λ c ne x. absurd (ne (alone x ∙ e)))
  where
    alone : {c : ℕ} → Contains (a ∷ []) c → c ≡ a
    alone (zero, l, e) = sym e
    alone (suc k, l, e) = absurd (let z : suc k < 1 = l in omega (arith, z))
rest (a ∷ []) few n (suc k, l, e) = absurd (let z : suc k < 1 = l in omega (arith, z))
rest (a ∷ b ∷ []) few n (zero, l, e) = (Some b, λ c ne x. by c ne x)
  where
    by : (c : ℕ) → c ≢ n → Contains (a ∷ b ∷ []) c → Some b ≡ Some c
    by c ne (zero, l, q) = absurd (ne (sym q ∙ e))
    by c ne (suc zero, l, q) = ap Some q
    by c ne (suc (suc k), l, q) = absurd (let z : suc (suc k) < 2 = l in omega (arith, z))
rest (a ∷ b ∷ []) few n (suc zero, l, e) = (Some a, λ c ne x. by c ne x)
  where
    by : (c : ℕ) → c ≢ n → Contains (a ∷ b ∷ []) c → Some a ≡ Some c
    by c ne (zero, l, q) = ap Some q
    by c ne (suc zero, l, q) = absurd (ne (sym q ∙ e))
    by c ne (suc (suc k), l, q) = absurd (let z : suc (suc k) < 2 = l in omega (arith, z))
rest (a ∷ b ∷ []) few n (suc (suc k), l, e) = absurd (let z : suc (suc k) < 2 = l in omega (arith, z))
rest (a ∷ b ∷ c ∷ ns) few n k = absurd few

module _ {V : Type 0} where
  -- the nodes that each call has taken out
  abbrev took : List (Machine Id V) → ℕ → List ℕ
  took ms i = taken_at (slice_get ms i)

  none_leaves : (ms : List (Machine Id V)) → Leaving nobody ms
  none_leaves ms i ne = absurd (ne refl)

  -- with nothing handed over yet, each call is to hand over just the nodes that it has taken out
  pub due : (ms : List (Machine Id V)) → Due id_number nobody (took ms) ms
  due ms = record {
    handed = λ i n c. absurd (nothing n c);
    due = λ i n c. inr (by i n (slice_get ms i) refl c);
    held = λ i n m at x. subst (λ o. Contains (taken_at o) n) (sym at) (is_taken m.phase n x);
  }
    where
      by : (i n : ℕ) (o : Option (Machine Id V)) → slice_get ms i ≡ o → Contains (taken_at o) n → (m : Machine Id V) × (slice_get ms i ≡ Some m) × TakenBy id_number m.phase n
      by i n None at c = absurd (nothing n c)
      by i n (Some m) at c = (m, at, taken_is m.phase n c)

  -- a call that has taken a node out has it still once a scan that is done has left its place
  pub taken_stays : (m : Machine Id V) (n : ℕ) → TakenBy id_number m.phase n → TakenBy id_number (rested m).phase n
  taken_stays m n x = by (is_done m.phase) (undone m.phase n x) where
    undone : (p : Phase Id V) (n : ℕ) → TakenBy id_number p n → is_done p ≡ false
    undone (Obsolete m next p r) n x = refl
    undone (Retire m next p r) n x = refl
    undone _ n x = absurd x

    by : (b : Bool) → b ≡ false → TakenBy id_number (if b then resting else m).phase n
    by false e = x
    by true e = absurd (false≢true (sym e))

  -- the step of a call that has taken a node out: it marks it, hands it over, or leaves it for later
  pub data Owes (h h' : ℕ → Node V) (p p' : Phase Id V) (n : ℕ) : Type 0 where
    Marks : TakenBy id_number p' n → SameBut h n (record (h n) { obsolete = true }) h' → Owes h h' p p' n
    Hands : (m : Id) (next : Option Id) (q : Id) (r : Reply V) → p ≡ Retire m next q r → n ≡ id_number m → SameBut h n (record (h n) { retired = true }) h' → Owes h h' p p' n
    Waits : TakenBy id_number p' n → h' n ≡ h n → Owes h h' p p' n

  -- a path of linked nodes leads to the same node where they stay as they are
  pub leads_same : (h h' : ℕ → Node V) (a : ℕ → Note) → ((n b c : ℕ) → (a n).status ≡ Linked → (h n).children b ≡ Below c → (a c).status ≡ Linked) → ((n : ℕ) → (a n).status ≡ Linked → h' n ≡ h n)
      → (path : List ℕ) (n c : ℕ) → (a n).status ≡ Linked → Leads h n path c → Leads h' n path c
  leads_same h h' a down keep [] n c l x = x
  leads_same h h' a down keep (b ∷ path) n c l x = (
    x.0,
    (let P : Node V → Type 0 = λ y. y.children b ≡ Below x.0 in subst P (sym (keep n l)) x.1),
    leads_same h h' a down keep path x.0 c (down n b x.0 l x.1) x.2,
  )

module _ {V : Type 0} (same : V → V → Bool) (always : Bool) (laws : CallLaws {C = Id} {V = V} id_number same always) (f f' : Nodes V) (ms between : List (Machine Id V)) (step : TreeStep Id V) (d : Move V) (safe : IsSafe same always f ms)
    (walked : Walked same always f ms step d f' between) (m : Machine Id V) (at : slice_get ms step.who ≡ Some m) where
  abbrev who : ℕ
  who = step.who

  abbrev settled : Settled id_number same always (nodes f) ms
  settled = safe.sound.sound.settled

  abbrev moved : IsMoved id_number same always f.version_max (Refuses f) (nodes f) ms m step d (nodes f') between
  moved = walked.plays.moved m at

  known : EachKnown id_number same always settled.0 (nodes f) who m
  known = settled.1.each who m at

  -- the step keeps what the protocol says of its call, its nodes and its report
  pub keeps : Keeps id_number same always who settled.0 m (nodes f) moved.now (nodes f') d
  keeps = moved.keeps who settled.0 known.root settled.1.tree settled.1.words known.known

  -- the machine that took the step stands in the worker's place
  pub now_at : slice_get between who ≡ Some moved.now
  now_at = ap (λ xs. slice_get xs who) moved.calls ∙ set_at ms who moved.now (slice_get_within ms who m at)

  abbrev passes : (by' : ℕ → List ℕ) × HandsAt nobody (nodes f) who by' (nodes f') × Leaving by' between
      × ((j n : ℕ) → Contains (by' j) n → Contains (nobody j) n ⊎ ((k : Machine Id V) × (slice_get ms j ≡ Some k) × TakenBy id_number k.phase n))
  passes = walked.plays.hands nobody (none_leaves ms)

  takes : (took' : ℕ → List ℕ) × TakesAt (took ms) (nodes f) who took' (nodes f') × Due id_number passes.0 took' between
  takes = walked.plays.takes settled.0 settled.1 settled.2 nobody (took ms) (none_leaves ms) (due ms)

  -- the machine at the worker's place
  here_is : (k : Machine Id V) (n : ℕ) → slice_get ms who ≡ Some k → TakenBy id_number k.phase n → TakenBy id_number m.phase n
  here_is k n e x = let q : Some k ≡ Some m = sym e ∙ at in let is : k ≡ m = cc in let P : Machine Id V → Type 0 = λ y. TakenBy id_number y.phase n in subst P is x

  passed : (n : ℕ) → Contains (passes.0 who) n → TakenBy id_number m.phase n
  passed n c = elim (passes.3 who n c) [
    | inl q ↦ absurd (nothing n q)
    | inr x ↦ here_is x.0 n x.1 x.2
  ]

  -- it takes two nodes out of the tree at most, which it has then
  pub record Out (n : ℕ) : Type 0 where
    pub out : IsOut (nodes f') n
    pub none : (c : ℕ) → TakenBy id_number m.phase c → ⊥
    pub taken : TakenBy id_number moved.now.phase n
    pub with_it : Option ℕ
    pub others : (c : ℕ) → c ≢ n → InTree (nodes f) c → InTree (nodes f') c ⊎ (with_it ≡ Some c)

  none_before : took ms who ≡ [] → (c : ℕ) → TakenBy id_number m.phase c → ⊥
  none_before e c x = nothing c (subst (λ ns. Contains ns c) (sym (ap taken_at at) ∙ e) (is_taken m.phase c x))

  out_of : (ns : List ℕ) (n : ℕ) → Contains ns n → TakesNodes (took ms) (nodes f) who ns takes.0 (nodes f') → Out n
  out_of ns n c t =
      let beside : (o : Option ℕ) × ((k : ℕ) → k ≢ n → Contains ns k → o ≡ Some k) = rest ns t.few n c in
      record {
        out = t.out n c;
        none = none_before t.first;
        taken = elim (takes.2.due who n (subst (λ ks. Contains ks n) (sym t.now) c)) [
          | inl e ↦ absurd (none_before t.first n (passed n e))
          | inr x ↦ (let q : Some x.0 ≡ Some moved.now = sym x.1 ∙ now_at in let is : x.0 ≡ moved.now = cc in let P : Machine Id V → Type 0 = λ y. TakenBy id_number y.phase n in subst P is x.2)
        ];
        with_it = beside.0;
        others = λ k ne i. elim (decide ns k) [
          | inl d ↦ inr (beside.1 k ne d)
          | inr d ↦ inl (t.tree k d i)
        ];
      }

  -- a node of the tree stays in it, or the step takes it out
  pub tree : (n : ℕ) → InTree (nodes f) n → InTree (nodes f') n ⊎ Out n
  tree n i = elim takes.1 [
    | inl x ↦ inl (x.tree n i)
    | inr y ↦ elim (decide y.0 n) [
      | inl c ↦ inr (out_of y.0 n c y.1)
      | inr d ↦ inl (y.1.tree n d i)
    ]
  ]

  -- only what it has taken out is handed over
  pub newly_waits : (n : ℕ) → is_handed_over (nodes f n) ≡ false → is_handed_over (nodes f' n) ≡ true → TakenBy id_number m.phase n
  newly_waits n b a = elim passes.1 [
    | inl x ↦ absurd (false≢true (sym b ∙ sym (x.nodes n) ∙ a))
    | inr y ↦ elim (cases_Bool (n == y.0)) [
      | inl e ↦ (let q : n ≡ y.0 = eqb-true n y.0 e in subst (λ c. TakenBy id_number m.phase c) (sym q) (passed y.0 (subst (λ ns. Contains ns y.0) (sym y.1.now) (itself y.0 []))))
      | inr e ↦ absurd (false≢true (sym b ∙ sym (y.1.nodes n (eqb-false n y.0 e)) ∙ a))
    ]
  ]

  -- the second of two nodes is another one
  apart : (c : Id) (next : Option Id) (n : ℕ) → AlsoOut id_number who settled.0 (nodes f) (id_number c) next → IsMade id_number next n → n ≢ id_number c
  apart c None n x y = absurd y
  apart c (Some k) n x y = λ e. x.3 (sym y ∙ e)

  later : (next : Option Id) (q : Id) (r : Reply V) (t : NextPhase Id V) (n : ℕ) → t ≡ after_retire next q r → IsMade id_number next n → TakenBy id_number t.phase n
  later None q r t n e y = absurd y
  later (Some k) q r t n e y = let P : NextPhase Id V → Type 0 = λ z. TakenBy id_number z.phase n in subst P (sym e) (inl y)

  phase_owes : (n : ℕ) (p : Phase Id V) (t : NextPhase Id V) → Known id_number same always who settled.0 (nodes f) m.key (key_bytes m.key) m.kind m.given p
      → PhaseStepped id_number same always f.version_max (Refuses f) m.root (key_bytes m.key) m.kind step.noise.fail step.noise.answer m.given p (nodes f) moved.now.given t (nodes f') → TakenBy id_number p n
      → Owes (nodes f) (nodes f') p t.phase n
  phase_owes n (Obsolete c next q r) t k x (inl y) =
      let P : NextPhase Id V → Type 0 = λ z. TakenBy id_number z.phase n in
      let Q : ℕ → Type 0 = λ k. SameBut (nodes f) k (record (nodes f k) { obsolete = true }) (nodes f') in
      Marks (subst P (sym x.2) (inl y)) (subst Q (sym y) x.1)
  phase_owes n (Obsolete c next q r) t k x (inr y) =
      let P : NextPhase Id V → Type 0 = λ z. TakenBy id_number z.phase n in
      Waits (subst P (sym x.2) (inr y)) (x.1.others n (apart c next n k.1 y))
  phase_owes n (Retire c next q r) t k x (inl y) =
      let Q : ℕ → Type 0 = λ k. SameBut (nodes f) k (record (nodes f k) { retired = true }) (nodes f') in
      Hands c next q r refl y (subst Q (sym y) x.1)
  phase_owes n (Retire c next q r) t k x (inr y) = Waits (later next q r t n x.2 y) (x.1.others n (apart c next n k.1 y))
  phase_owes n _ t k x y = absurd y

  -- a node that the call has taken out waits, is handed over in this step, or is left for a later one
  pub owes : (n : ℕ) → TakenBy id_number m.phase n → Owes (nodes f) (nodes f') m.phase moved.now.phase n
  owes n x = phase_owes n m.phase (record { phase = moved.now.phase; report = d }) known.known moved.step.step x

  -- a node that the call has taken out left the tree under its lock, and isn't handed over
  pub owed : (n : ℕ) → TakenBy id_number m.phase n → IsTaken who settled.0 (nodes f) n
  owed n x = taken_known id_number same always who settled.0 (nodes f) m.key (key_bytes m.key) m.kind m.given n m.phase known.known x

  locked_by : (n : ℕ) → (settled.0 n).owner ≡ Some who → (nodes f n).locked ≡ true
  locked_by n o = elim (cases_Bool (nodes f n).locked) [
    | inl e ↦ e
    | inr e ↦ absurd (let z : None ≡ Some who = sym ((settled.1.words.each n).free e) ∙ o in cc)
  ]

  -- the step that hands over a marked node defers its destruction into a free place of the worker's bag
  pub hands_over : (n : ℕ) (c : Id) (next : Option Id) (q : Id) (r : Reply V) → TakenBy id_number m.phase n → m.phase ≡ Retire c next q r → n ≡ id_number c → SameBut (nodes f) n (record (nodes f n) { retired = true }) (nodes f') → HandsOver f f' who n
  hands_over n c next q r x e is b =
      let o = owed n x in
      let g : Guards (place f.collector who) m = safe.sound.sound.guarded who m at in
      let on : IsUnderWay m.phase = (let P : Phase Id V → Type 0 = λ p. IsUnderWay p in subst P (sym e) tt) in
      let P : Phase Id V → Type 0 = λ p. Known id_number same always who settled.0 (nodes f) m.key (key_bytes m.key) m.kind m.given p in
      let Q : Phase Id V → Type 0 = λ p. IsSecured m.kind p (length (place f.collector who).bag) in
      let R : ℕ → Type 0 = λ k. (nodes f k).obsolete ≡ true in
      let k = subst P e known.known in
      record {
        name = c.name;
        is = sym is;
        stands = (settled.1.words.each n).stands (ap is_published o.gone);
        out = λ path leads. let z : Gone ≡ Linked = sym o.gone ∙ laws.leads settled.0 (nodes f) settled.1.tree path 0 n settled.1.tree.root leads in cc;
        marked = subst R (sym is) k.2;
        locked = locked_by n o.owner;
        before = o.unretired;
        after = ap (λ y. y.retired) b.after;
        registered = g.registered on;
        pinned = g.pinned on;
        idle = g.idle on;
        room = retiring_room m.kind c next q r (length (place f.collector who).bag) (subst Q e g.secured);
        deferral = walked.collector_is ∙ ap (λ y. after_walk y (with_store f.collector f'.collector.store) who) (ap retiring_at at ∙ ap retiring e);
      }

  -- the step of a call that has marked its node hands it over
  pub retires : (c : Id) (next : Option Id) (q : Id) (r : Reply V) → m.phase ≡ Retire c next q r → HandsOver f f' who (id_number c)
  retires c next q r e =
      let P : Phase Id V → Type 0 = λ p. PhaseStepped id_number same always f.version_max (Refuses f) m.root (key_bytes m.key) m.kind step.noise.fail step.noise.answer m.given p (nodes f) moved.now.given (record { phase = moved.now.phase; report = d }) (nodes f') in
      let Q : Phase Id V → Type 0 = λ p. TakenBy id_number p (id_number c) in
      let x = subst P e moved.step.step in
      hands_over (id_number c) c next q r (subst Q (sym e) (inl refl)) e refl x.1
