-- A scan that is done leaves its worker's place: it holds nothing, and it is watched no longer.
use Rattle.std.proofs.Common.{◌≡◌, ◌≢◌, ◌⊎◌, ◌+◌, ◌≤◌, ℕ, zero, suc, arith, Bool, true, false, cond, List, [], ◌∷◌, refl, sym, ◌∙◌, ap, subst, inl, inr, length}
use Rattle.std.proofs.Math.ListN.{set}
use Rattle.std.specs.Prelude.{◌==◌, not, Option, None, Some, slice_get, slice_set, if◌then◌else◌}
use Rattle.std.proofs.lemmas.Bool.{cases_Bool, cases_eq}
use Rattle.std.proofs.lemmas.List.{set-set}
use Rattle.judge.specs.declared.journal.Reply.{Reply}
use Rattle.judge.specs.Answer.{Pairs}
use Rattle.crossbeam_epoch.specs.world.Machine.{place}
use Rattle.congee.specs.declared.protocol.machine.Machine.{Machine}
use Rattle.congee.specs.declared.protocol.machine.Move.{Move}
use Rattle.congee.specs.declared.protocol.machine.Outcome.{Outcome}
use Rattle.congee.specs.declared.protocol.machine.Outcome.TheVariants.{Running, Asks, Found, Done, Scanned, Refused}
use Rattle.congee.specs.declared.protocol.phase.Kind.{Kind}
use Rattle.congee.specs.declared.protocol.phase.Phase.{Phase}
use Rattle.congee.specs.declared.protocol.phase.Phase.TheVariants.{Scan}
use Rattle.congee.specs.declared.protocol.store.Least.{Least}
use Rattle.congee.specs.declared.protocol.store.Least.TheVariants as least
use Rattle.congee.specs.declared.protocol.store.Refusal.{Refusal}
use Rattle.congee.specs.declared.protocol.store.Region.{Region}
use Rattle.congee.specs.declared.protocol.scan.Rung.{Rung}
use Rattle.congee.specs.declared.protocol.scan.Stage.{Stage}
use Rattle.congee.specs.declared.protocol.scan.Stage.TheVariants as stage
use Rattle.congee.specs.declared.protocol.scan.ScanState.{ScanState as ScanState}
use Rattle.congee.specs.declared.protocol.scan.ScanReport.{ScanReport}
use Rattle.congee.specs.declared.protocol.scan.ScanReport.TheVariants as scan_report
use Rattle.congee.specs.declared.forms.base_node.NodeType.{NodeType}
use Rattle.congee.specs.Heap.{Node, version_of, is_taken}
use Rattle.congee.specs.Keys.{key_bytes}
use Rattle.congee.specs.protocol.Holdings.{LockedBy, MadeBy, TakenBy}
use Rattle.congee.specs.protocol.Play.{Flight, Pending, Decided, Over, Unbegun, Scanning, Question, EachKnown, Settled, Follows, IsOfPoint, Watched, PendingMoves, Undecided, Concludes, ScanTells, flight, value_answered, resolved}
use Rattle.congee.specs.protocol.Steps.{Stepped, PhaseStepped, outcome_of}
use Rattle.congee.specs.protocol.ScanSteps.{whole, NextScan, ScanSteppedAt, over, anew, left, left_to, last_of, filled, entered, begins, IsFollowed, is_outside}
use Rattle.congee.specs.protocol.State.{is_past, is_done, is_over}
use Rattle.joint.specs.declared.id.Id.{Id}
use Rattle.joint.specs.nodes.Nodes.{Nodes}
use Rattle.joint.specs.nodes.Heap.{heap_of}
use Rattle.joint.specs.engine.Intact.{resting, rested, cleared, cleared_at}
use Rattle.joint.specs.engine.Safety.{IsSafe}
use Rattle.joint.specs.nodes.Slots.{slot_names}
use Rattle.joint.specs.engine.Sound.{IsUnderWay, most_left}
use Rattle.joint.specs.nodes.View.{view, id_number}
use Rattle.joint.proofs.lemmas.engine.SoundBegins as begin
use Rattle.joint.proofs.lemmas.engine.Ending.{IsOnKey, goes_on_after as continues, step_ends}
use Rattle.congee.proofs.Laws.{get_set, set_here}

-- each other place of a list has what it had before one was set
pub set_other : {A : Type 0} (xs : List A) (i j : ℕ) (x : A) → j ≢ i → slice_get (set xs i x) j ≡ slice_get xs j
set_other [] i j x n = refl
set_other (y ∷ xs) zero zero x n = absurd (n refl)
set_other (y ∷ xs) zero (suc j) x n = refl
set_other (y ∷ xs) (suc i) zero x n = refl
set_other (y ∷ xs) (suc i) (suc j) x n = set_other xs i j x (λ e. n (ap suc e))

module _ {V : Type 0} where
  -- it holds nothing
  no_lock : (p : Phase Id V) (n : ℕ) → is_done p ≡ true → LockedBy id_number p n → ⊥
  no_lock (Scan s) n e x = x
  no_lock _ n e x = absurd (cc e)

  no_made : (p : Phase Id V) (n : ℕ) → is_done p ≡ true → MadeBy id_number p n → ⊥
  no_made (Scan s) n e x = x
  no_made _ n e x = absurd (cc e)

  no_taken : (p : Phase Id V) (n : ℕ) → is_done p ≡ true → TakenBy id_number p n → ⊥
  no_taken (Scan s) n e x = x
  no_taken _ n e x = absurd (cc e)

  -- a worker's place never has a scan that is done, once that has left it
  pub not_done : (m : Machine Id V) → is_done (rested m).phase ≡ false
  not_done m = elim (cases_Bool (is_done m.phase)) [
    | inl e ↦ (let P : Bool → Type 0 = λ b. is_done (if b then resting else m).phase ≡ false in subst P (sym e) refl)
    | inr e ↦ (let P : Bool → Type 0 = λ b. is_done (if b then resting else m).phase ≡ false in subst P (sym e) e)
  ]

module _ {V : Type 0} (same : V → V → Bool) (always : Bool) (s : Nodes V) (ms : List (Machine Id V)) (who : ℕ) (m : Machine Id V) (here : slice_get ms who ≡ Some m) where
  module _ (done : is_done m.phase ≡ true) where
    kept : (j : ℕ) (P : Machine Id V → Type 0) → ((y : Machine Id V) → is_done y.phase ≡ true → P y → ⊥) → (y : Machine Id V) × (slice_get ms j ≡ Some y) × P y → (y : Machine Id V) × (slice_get (set ms who resting) j ≡ Some y) × P y
    kept j P never x = elim (cases_eq j who) [
      | inl q ↦ absurd (let is : m ≡ x.0 = (let z : Some m ≡ Some x.0 = sym here ∙ ap (slice_get ms) (sym q) ∙ x.1 in cc) in never x.0 (ap (λ y. is_done y.phase) (sym is) ∙ done) x.2)
      | inr ne ↦ (x.0, set_other ms who j resting ne ∙ x.1, x.2)
    ]

    settled : (h : ℕ → Node V) → Settled id_number same always h ms → Settled id_number same always h (set ms who resting)
    settled h (a, pa, ho) = (
      a,
      record {
        tree = pa.tree;
        words = pa.words;
        each = λ j y at. elim (get_set ms who j resting y at) [
          | inl e ↦ (let P : Machine Id V → Type 0 = λ z. EachKnown id_number same always a h j z in subst P e.1 (record { root = refl; key = omega arith; known = tt }))
          | inr apart ↦ pa.each j y apart.1
        ];
      },
      record {
        owned = λ n j e. kept j (λ y. LockedBy id_number y.phase n) (λ y d x. no_lock y.phase n d x) (ho.owned n j e);
        held = λ n j e. kept j (λ y. MadeBy id_number y.phase n) (λ y d x. no_made y.phase n d x) (ho.held n j e);
        locked = ho.locked;
        gone = λ n e. elim (ho.gone n e) [
          | inl r ↦ inl r
          | inr x ↦ (let y = kept x.0 (λ z. TakenBy id_number z.phase n) (λ z d t. no_taken z.phase n d t) (x.1, x.2, x.3) in inr (x.0, y.0, y.1, y.2))
        ];
        spent = ho.spent;
        unmade = ho.unmade;
      },
    )

    rests : IsSafe same always s ms → IsSafe same always s (set ms who resting)
    rests safe =
        let x : length (place s.collector who).bag + most_left m.kind m.phase ≤ 64 = (safe.sound.sound.guarded who m here).secured in
        let room : length (place s.collector who).bag + 0 ≤ 64 = omega (arith, x) in
        record {
          sound = record {
            top = safe.sound.top;
            past = safe.sound.past;
            sound = begin.begun slot_names view id_number same always get_set safe.sound.top safe.sound.past s.collector ms safe.sound.sound who resting (settled (heap_of view s.collector.store) safe.sound.sound.settled) refl (λ k x. x)
                (record { registered = λ u. absurd u; pinned = λ u. absurd u; idle = λ u. absurd u; secured = room });
          };
          within = safe.within;
        }

  -- all is safe where a scan that is done leaves its place
  pub cleared_safe : IsSafe same always s ms → IsSafe same always s (cleared ms who)
  cleared_safe safe =
      let P : Option (Machine Id V) → Type 0 = λ o. IsSafe same always s (cleared_at o ms who) in
      let Q : Bool → Type 0 = λ b. IsSafe same always s (if b then slice_set ms who resting else ms) in
      subst P (sym here) (elim (cases_Bool (is_done m.phase)) [
        | inl e ↦ subst Q (sym e) (rests e safe)
        | inr e ↦ subst Q (sym e) safe
      ])

module _ {V : Type 0} (ms between : List (Machine Id V)) (who : ℕ) (old now : Machine Id V) (here : slice_get ms who ≡ Some old) (calls : between ≡ set ms who now) where
  -- the worker's machine between the step and the leaving is the one that took the step
  pub now_between : slice_get between who ≡ Some now
  now_between = ap (λ xs. slice_get xs who) calls ∙ set_here ms who now old here

  by_done : (b : Bool) → (if b then slice_set between who resting else between) ≡ set ms who (if b then resting else now)
  by_done true = ap (λ xs. set xs who resting) calls ∙ set-set ms who now resting
  by_done false = calls

  -- the machines are as before, but for the worker's: that of the step, or one at rest after a scan that is done
  pub cleared_is : cleared between who ≡ set ms who (rested now)
  cleared_is = ap (λ o. cleared_at o between who) now_between ∙ by_done (is_done now.phase)

-- whether a scan's report tells its end
abbrev pub is_end : {V : Type 0} → ScanReport V → Bool
is_end scan_report.Running = false
is_end (scan_report.Found place k v) = false
is_end (scan_report.Done count) = true
is_end (scan_report.Refused e) = true

-- a scan has told its end exactly where it is past
abbrev Tells : {V : Type 0} → NextScan Id V → Type 0
Tells u = is_past u.0.stage ≡ is_end u.1

fills : (V : Type 0) (b : Bool) (r : Rung Id) → is_past {V = V} (cond b stage.Full (stage.Look r)) ≡ false
fills V true r = refl
fills V false r = refl

module _ {V : Type 0} where
  by : (t u : NextScan Id V) → t ≡ u → Tells u → Tells t
  by t u e x = let P : NextScan Id V → Type 0 = λ y. Tells y in subst P (sym e) x

  by_cond : (b : Bool) (t u : NextScan Id V) → Tells t → Tells u → Tells (cond b t u)
  by_cond true t u x y = x
  by_cond false t u x y = y

  leaving : (s : ScanState Id V) (o : Option (Rung Id)) → Tells (left_to s o)
  leaving s None = refl
  leaving s (Some r) = refl

  entering : (root : Id) (s : ScanState Id V) (n : Id) (x : Region) (v : Option ℕ) → Tells (entered root s n x v)
  entering root s n x None = refl
  entering root s n x (Some v) = by_cond (is_outside s.start s.last x) (left s) _ (leaving s (last_of s.above)) refl

  following : (number : Id → ℕ) (h : ℕ → Node V) (s : ScanState Id V) (r : Rung Id) (x : Least Id V) (u : NextScan Id V) → IsFollowed number h s r x u → Tells u
  following number h s r least.Nothing u f = by u (left s) f (leaving s (last_of s.above))
  following number h s r (least.Node byte c) u f = by u _ f.2 refl
  following number h s r (least.Value byte v) u f = by u (filled s r byte v) f (fills V _ _)
  following number h s r least.Uncopied u f = by u _ f refl

  after_scan_tells : (number : Id → ℕ) (always : Bool) (root : Id) (s : ScanState Id V) (x : Stage Id V) (h : ℕ → Node V) (u : NextScan Id V) → is_past x ≡ false → ScanSteppedAt number always root s x h u → Tells u
  after_scan_tells number always root s stage.New h u n f = by u (begins root s (version_of (h (number root)))) f (by_cond (s.size == 0) _ _ refl (entering root (anew root s).0 root whole (version_of (h (number root)))))
  after_scan_tells number always root s (stage.Enter c x) h u n f = by u _ f (entering root s c x (version_of (h (number c))))
  after_scan_tells number always root s (stage.Look r) h u n f = by u _ f.2 refl
  after_scan_tells number always root s (stage.Check r x) h u n f = elim (cases_Bool (is_taken (h (number r.at.node)) r.at.version)) [
    | inl e ↦ following number h s r x u (f.goes_on e)
    | inr e ↦ by u (anew root s) (f.goes_back e) refl
  ]
  after_scan_tells number always root s stage.Full h u n f = by u _ f refl
  after_scan_tells number always root s stage.Over h u n f = absurd (cc n)

  -- a call on one key is watched as one
  pending_point : (k : ℕ) (kind : Kind V) (v : Option V) (q : Question V) (o : Outcome V) (f' : Flight V) → Undecided k kind v q o f' → IsOfPoint f'
  pending_point k kind v q Running f' x = let P : Flight V → Type 0 = λ y. IsOfPoint y in subst P (sym x.2) tt
  pending_point k kind v q (Asks o) f' x = let P : Flight V → Type 0 = λ y. IsOfPoint y in subst P (sym x.1) tt
  pending_point k kind v q (Refused e) f' x = let P : Flight V → Type 0 = λ y. IsOfPoint y in subst P (sym x) tt
  pending_point k kind v q (Done r) f' x = absurd x
  pending_point k kind v q (Found a b c) f' x = absurd x
  pending_point k kind v q (Scanned c) f' x = absurd x

  concluded_point : (r : Reply V) (o : Outcome V) (f' : Flight V) → Concludes r o f' → IsOfPoint f'
  concluded_point r Running f' x = let P : Flight V → Type 0 = λ y. IsOfPoint y in subst P (sym x) tt
  concluded_point r (Done s) f' x = let P : Flight V → Type 0 = λ y. IsOfPoint y in subst P (sym x.1) tt
  concluded_point r (Asks o) f' x = absurd x
  concluded_point r (Refused e) f' x = absurd x
  concluded_point r (Found a b c) f' x = absurd x
  concluded_point r (Scanned c) f' x = absurd x

  moves_point : (same : V → V → Bool) (k : ℕ) (kind : Kind V) (v : Option V) (q : Question V) (m m' : Pairs V) (b : Bool) (o : Outcome V) (f' : Flight V) → PendingMoves same k kind v q m b o f' m' → IsOfPoint f'
  moves_point same k kind v q m m' false o f' x = pending_point k kind v q o f' x.0
  moves_point same k kind v q m m' true o f' x = concluded_point x.1 o f' x.5

  -- watched as one, and a scan by its phase: it is watched no longer
  point_over : (now : Machine Id V) (s : ScanState Id V) (f : Flight V) → now.phase ≡ Scan s → IsOfPoint f → Follows now f → f ≡ Over
  point_over now s f p o (inl x) = absurd (
      let P : Phase Id V → Type 0 = λ y. f ≡ flight (record now { phase = y }) in
      let e : f ≡ Unbegun s.start (suc s.last) s.size = subst P p x.1 in
      let Q : Flight V → Type 0 = λ y. IsOfPoint y in subst Q e o)
  point_over now s f p o (inr (t, q, inl x)) = absurd (let Q : Flight V → Type 0 = λ y. IsOfPoint y in subst Q x.0 o)
  point_over now s f p o (inr (t, q, inr (inl x))) = x.0
  point_over now s f p o (inr (t, q, inr (inr x))) = absurd (let Q : Flight V → Type 0 = λ y. IsOfPoint y in subst Q x.2 o)

  -- a scan that told its end
  scan_over : (start end size : ℕ) (states : List (Pairs V)) (places : List (ℕ × V)) (o : ScanReport V) (f : Flight V) → is_end o ≡ true → ScanTells start end size states places (outcome_of o) f → f ≡ Over
  scan_over start end size states places scan_report.Running f e x = absurd (cc e)
  scan_over start end size states places (scan_report.Found a b c) f e x = absurd (cc e)
  scan_over start end size states places (scan_report.Done count) f e x = x.2
  scan_over start end size states places (scan_report.Refused c) f e x = x

  -- once a scan that is done has left, its machine is watched as over, and any other as before
  pub rest_follows : (now : Machine Id V) (f : Flight V) → (is_done now.phase ≡ true → f ≡ Over) → Follows now f → Follows (rested now) f
  rest_follows now f over x =
      let P : Bool → Type 0 = λ b. Follows (if b then resting else now) f in
      elim (cases_Bool (is_done now.phase)) [
        | inl e ↦ subst P (sym e) (let Q : Flight V → Type 0 = λ y. Follows resting y in subst Q (sym (over e)) (inl (tt, refl)))
        | inr e ↦ subst P (sym e) x
      ]

  scan_of : (p : Phase Id V) → is_done p ≡ true → (s : ScanState Id V) × (p ≡ Scan s) × (is_past s.stage ≡ true)
  scan_of (Scan s) e = (s, refl, e)
  scan_of _ e = absurd (cc e)

module _ {V : Type 0} (same : V → V → Bool) (always : Bool) (most : ℕ) (why : NodeType → Refusal → Type 0) (m now : Machine Id V) (h h' : ℕ → Node V) (fail : Bool) (answer : Option (Option V)) (d : Move V) (stepped : Stepped id_number same always most why m h fail answer now h' d) where
  -- a scan took the step
  told_end : (s0 : ScanState Id V) → m.phase ≡ Scan s0 → is_done m.phase ≡ false → is_done now.phase ≡ true → (o : ScanReport V) × (d.outcome ≡ outcome_of o) × (is_end o ≡ true)
  told_end s0 p n e =
      let P : Phase Id V → Type 0 = λ y. PhaseStepped id_number same always most why m.root (key_bytes m.key) m.kind fail answer m.given y h now.given (record { phase = now.phase; report = d }) h' in
      let x = subst P p stepped.step in
      let t : is_past x.2.0.stage ≡ is_end x.2.1 = after_scan_tells id_number always m.root s0 s0.stage h (x.2.0, x.2.1) (ap is_done (sym p) ∙ n) x.2.2 in
      let q : now.phase ≡ Scan x.2.0 = ap (λ y. y.phase) x.2.3 in
      (x.2.1, ap (λ y. y.report.outcome) x.2.3, sym t ∙ ap is_done (sym q) ∙ e)

  -- its call has ended in its worker's place exactly where the step reports so
  end_continues : (o : ScanReport V) → is_end o ≡ not (continues (outcome_of o))
  end_continues scan_report.Running = refl
  end_continues (scan_report.Found a b c) = refl
  end_continues (scan_report.Done count) = refl
  end_continues (scan_report.Refused e) = refl

  over_by : (b : Bool) (s1 : ScanState Id V) → now.phase ≡ Scan s1 → is_over (if b then resting else now).phase ≡ b
  over_by true s1 q = refl
  over_by false s1 q = ap is_over q

  scan_final : (s0 : ScanState Id V) → m.phase ≡ Scan s0 → is_done m.phase ≡ false → is_over (rested now).phase ≡ not (continues d.outcome)
  scan_final s0 p n =
      let P : Phase Id V → Type 0 = λ y. PhaseStepped id_number same always most why m.root (key_bytes m.key) m.kind fail answer m.given y h now.given (record { phase = now.phase; report = d }) h' in
      let x = subst P p stepped.step in
      let t : is_past x.2.0.stage ≡ is_end x.2.1 = after_scan_tells id_number always m.root s0 s0.stage h (x.2.0, x.2.1) (ap is_done (sym p) ∙ n) x.2.2 in
      let q : now.phase ≡ Scan x.2.0 = ap (λ y. y.phase) x.2.3 in
      over_by (is_done now.phase) x.2.0 q ∙ ap is_done q ∙ t ∙ end_continues x.2.1 ∙ ap (λ o. not (continues o)) (sym (ap (λ y. y.report.outcome) x.2.3))

  no_scan : (p : Phase Id V) → IsOnKey p → is_done p ≡ false
  no_scan (Scan s) k = absurd k
  no_scan _ k = refl

  key_final : IsUnderWay m.phase → IsOnKey m.phase → is_over (rested now).phase ≡ not (continues d.outcome)
  key_final u k =
      let e = step_ends id_number same always most why m now h h' fail answer d u k stepped in
      ap (λ b. is_over (if b then resting else now).phase) (no_scan now.phase e.1) ∙ e.0

  kind_of : (p : Phase Id V) → IsOnKey p ⊎ ((s : ScanState Id V) × (p ≡ Scan s))
  kind_of (Scan s) = inr (s, refl)
  kind_of _ = inl tt

  -- the call in the worker's place has ended just where the step doesn't tell that it goes on
  pub told_final : IsUnderWay m.phase → is_done m.phase ≡ false → is_over (rested now).phase ≡ not (continues d.outcome)
  told_final u n = elim (kind_of m.phase) [
    | inl k ↦ key_final u k
    | inr s ↦ scan_final s.0 s.1 n
  ]

  module _ (f f' : Flight V) (pairs pairs' : Pairs V) (told_answer : Option (Option V)) (before : Follows m f) (after : Follows now f') (n : is_done m.phase ≡ false) where
    scans : (start end size : ℕ) (states : List (Pairs V)) (places : List (ℕ × V)) → (IsOfPoint f → ⊥) → Follows m f → is_done now.phase ≡ true → ScanTells start end size states places d.outcome f' → f' ≡ Over
    scans start end size states places never (inl x) e t = absurd (never x.0)
    scans start end size states places never (inr x) e t =
        let y = told_end x.0 x.1 n e in
        let P : Outcome V → Type 0 = λ o. ScanTells start end size states places o f' in
        scan_over start end size states places y.0 f' y.2 (subst P y.1 t)

    points : IsOfPoint f' → is_done now.phase ≡ true → f' ≡ Over
    points o e = let s = scan_of now.phase e in point_over now s.0 f' s.1 o after

    -- a scan that is done after the step is watched as over
    pub done_over : Watched same f pairs told_answer d f' pairs' → is_done now.phase ≡ true → f' ≡ Over
    done_over w e = by_flight f refl before w
      where
        by_flight : (g : Flight V) → f ≡ g → Follows m g → Watched same g pairs told_answer d f' pairs' → f' ≡ Over
        by_flight (Pending k kind v q) is b x = points (moves_point same k kind (value_answered kind q told_answer v) (resolved kind q told_answer) pairs pairs' d.decided d.outcome f' x) e
        by_flight (Decided r) is b x = points (concluded_point r d.outcome f' x.1) e
        by_flight Over is b x = x.1
        by_flight (Unbegun start end size) is b x = scans start end size (pairs ∷ []) [] (λ o. let P : Flight V → Type 0 = λ y. IsOfPoint y in subst P is o) before e x.1
        by_flight (Scanning start end size states places) is b x = scans start end size (pairs ∷ states) places (λ o. let P : Flight V → Type 0 = λ y. IsOfPoint y in subst P is o) before e x.1
