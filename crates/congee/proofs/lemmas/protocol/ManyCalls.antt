-- Steps of any number of calls, one after another.
use Rattle.std.proofs.Common.{◌≡◌, ◌≢◌, ℕ, ◌<◌, ◌≤◌, ◌^◌, ◌⊎◌, inl, inr, Bool, false, List, [], ◌∷◌, ◌++◌, length, map, take, ◌+◌, ◌-◌, min, refl, sym, ◌∙◌, ap, subst, arith}
use Rattle.std.proofs.Math.ListN.{set}
use Rattle.std.proofs.lemmas.List.{append_assoc, length-append}
use Rattle.std.proofs.Math.Seq.{take-append_seam}
use Rattle.std.proofs.lemmas.Option.{slice_get_past}
use Rattle.std.specs.Prelude.{Option, None, Some, Result, Ok, Err, OnOk, OnErr, slice_get}
use Rattle.judge.specs.Answer.{Pairs}
use Rattle.std.specs.FinMap.{empty}
use Rattle.congee.specs.declared.forms.base_node.NodeType.{NodeType}
use Rattle.congee.specs.declared.protocol.store.Refusal.{Refusal}
use Rattle.congee.specs.declared.protocol.phase.Kind.{Kind}
use Rattle.congee.specs.declared.protocol.phase.Phase.{Phase}
use Rattle.congee.specs.declared.protocol.next_phase.NextPhase.{NextPhase}
use Rattle.congee.specs.declared.protocol.machine.Move.{Move}
use Rattle.congee.specs.declared.protocol.machine.Outcome.TheVariants.{Running}
use Rattle.congee.specs.declared.protocol.machine.Machine.{Machine}
use Rattle.congee.specs.declared.protocol.run.Step.{Step}
use Rattle.congee.specs.Heap.{Node}
use Rattle.congee.specs.Keys.{key_bytes, IsMapOf}
use Rattle.congee.specs.Notes.{Note, Held, Tree, LockWords}
use Rattle.congee.specs.protocol.Protocol.{Rely, Fares, Known}
use Rattle.congee.specs.protocol.Steps.{after_scan, PhaseStepped, MayStep, Stepped}
use Rattle.congee.specs.protocol.ScanKnown.{ScanKnownAt}
use Rattle.congee.specs.declared.protocol.scan.ScanState.{ScanState as ScanState}
use Rattle.congee.specs.declared.protocol.scan.Stage.{Stage}
use Rattle.congee.specs.declared.protocol.phase.Phase.TheVariants.{New, Scan}
use Rattle.congee.specs.protocol.Answers.{StepAnswers, Keeps, KeepsProtocol}
use Rattle.congee.specs.protocol.Play.{Flight, Watched, WatchedAt, IsOfPoint, IsBegin, Follows, Following, flight_in, flight, EachKnown, Protocol, ProtocolAt, Settled, Begins, NextAt, Chain, Plays, IsMoved, StepPlays}
use Rattle.congee.specs.protocol.Trace.{Traced, AreTraced, nodes_after, calls_after, IsTrace}
use Rattle.congee.specs.protocol.Holdings.{LockedBy, MadeBy, TakenBy, Holdings, Rests, Apart}
use Rattle.congee.specs.protocol.Names.{names, KeepsOrigin}
use Rattle.congee.proofs.lemmas.protocol.Each.{each_any}
use Rattle.congee.proofs.lemmas.protocol.Rely.{known_kept}
use Rattle.congee.proofs.lemmas.protocol.Owners.{get_set, own_before, mine_before, held_after, gone_taken, taken_on, made_held, locks_owned}
use Rattle.congee.proofs.lemmas.protocol.Holdings.{Holds_now, step_holds}
use Rattle.congee.proofs.lemmas.protocol.Locks.{own_rely}
use Rattle.congee.specs.protocol.Handing.{StepHands, StepTakes}
use Rattle.congee.proofs.lemmas.protocol.Handing.{SparesWaiting, Gives, step_hands, leaves_on, stepped_hands, stepped_apart, idle_hands, handing_none, handing_more}
use Rattle.congee.proofs.lemmas.protocol.Unlinking.{step_takes, idle_takes, accounted, unlinking_none, unlinking_more}
use Rattle.congee.proofs.lemmas.protocol.Opening.{opened, opening_tree, opening_words, opening_rests, standing_none}
use Rattle.congee.proofs.lemmas.protocol.Touch.{owner_locked}
use Rattle.congee.proofs.lemmas.protocol.Wants.{wants}
use Rattle.congee.proofs.lemmas.protocol.Causes.{caused, next_weaker}
use Rattle.congee.specs.protocol.Causes.{IsCause}
use Rattle.congee.proofs.lemmas.protocol.Watches.{watched}
use Rattle.congee.proofs.lemmas.protocol.ScanFlights.{point_stays, follow_at, follow_none, follow_set, follow_new, scan_watched}

-- steps that go on until none is left, or no place in a list that had so many moves before, are all, or as many as it had places for
pub stops : (all rest done len before places : ℕ) → all ≡ done + rest → done ≡ len - before → before ≤ len → len ≤ places → (rest ≡ 0) ⊎ (len ≡ places) → done ≡ min all (places - before)
stops all rest done len before places a d m f (inl none) = omega (arith, a, d, m, f, none)
stops all rest done len before places a d m f (inr full) = omega (arith, a, d, m, f, full)

-- a list that got places for all steps has them, and one that was refused them has none
pub all_or_none : {A E : Type 0} (r : Result A E) (done all asked len places places' : ℕ) → done ≡ min all (places' - len) → asked ≡ all → len ≡ 0 → places ≡ 0 → OnOk r (len + asked ≤ places') → OnErr r (places' ≡ places) → (done ≡ all) ⊎ (done ≡ 0)
all_or_none (Ok x) done all asked len places places' d q z n ok err = let k : len + asked ≤ places' = ok in inl (omega (arith, d, q, z, k))
all_or_none (Err e) done all asked len places places' d q z n ok err = let k : places' ≡ places = err in inr (omega (arith, d, z, n, k))

module _ {C V : Type 0} (number : C → ℕ) (same : V → V → Bool) (always : Bool) where
  -- a call of the protocol may step
  pub may_step : (h : ℕ → Node V) (ms : List (Machine C V)) (i : ℕ) (m : Machine C V) → Protocol number same always h ms → slice_get ms i ≡ Some m → MayStep number m.root (key_bytes m.key) m.given m.phase h
  may_step h ms i m p e = wants number same always i p.notes h m.key p.tree p.words m.root (p.each i m e).root m.kind m.given m.phase (p.each i m e).known

  each_kept : (i : ℕ) (a : ℕ → Note) (h : ℕ → Node V) (ms : List (Machine C V)) (a' : ℕ → Note) (m' : Machine C V) (h' : ℕ → Node V)
      → ((j : ℕ) (m : Machine C V) → slice_get ms j ≡ Some m → EachKnown number same always a h j m) → ((j : ℕ) → j ≢ i → Rely (λ _. Unit {0}) j a h a' h')
      → EachKnown number same always a' h' i m' → (j : ℕ) (x : Machine C V) → slice_get (set ms i m') j ≡ Some x → EachKnown number same always a' h' j x
  each_kept i a h ms a' m' h' e r q j x g = elim (get_set ms i j m' x g) [
    | inl p ↦ (let P : ℕ → Machine C V → Type 0 = λ y z. EachKnown number same always a' h' y z in
        let Q : ℕ → Type 0 = λ y. P y x in subst Q (sym p.0) (let R : Machine C V → Type 0 = λ z. P i z in subst R p.1 q))
    | inr p ↦ (let o : EachKnown number same always a h j x = e j x p.1 in record {
      root = o.root;
      key = o.key;
      known = known_kept number same always (λ _. Unit {0}) j a h a' h' (r j p.0) x.key (key_bytes x.key) x.kind x.given x.phase (each_any (names number x.phase)) o.known;
    })
  ]

  -- what a step of one call leaves, with notes before and after it
  abbrev pub After : (ℕ → Node V) → List (Machine C V) → ℕ → Machine C V → (ℕ → Node V) → (ℕ → Note) → Type 0
  After h ms i m' h' a = (a' : ℕ → Note) × ProtocolAt number same always a' h' (set ms i m') × (Holdings number a h ms → Holdings number a' h' (set ms i m') × ((hands : StepHands number h ms i h' (set ms i m')) → StepTakes number h ms i h' (set ms i m') hands))

  abbrev Now_after : (i : ℕ) → (a : ℕ → Note) → (h : ℕ → Node V) → (a' : ℕ → Note) → (h' : ℕ → Node V) → (m m' : Machine C V) → LockWords a h → Tree a h → LockWords a' h' → Tree a' h' → ((n : ℕ) → Fares i (a n) (a' n) (h n) (h' n)) → Type 0
  Now_after i a h a' h' m m' w t w' t' f = Holds_now number same always i a h a' h' (key_bytes m.key) w w' t' f m'.phase

  -- the step of one call, with notes before and after it
  pub step_leaves : (most : ℕ) (why : NodeType → Refusal → Type 0) (h : ℕ → Node V) (ms : List (Machine C V)) (i : ℕ) (fail : Bool) (answer : Option (Option V)) (m m' : Machine C V) (h' : ℕ → Node V) (d : Move V) (a : ℕ → Note)
      → ProtocolAt number same always a h ms → slice_get ms i ≡ Some m → Stepped number same always most why m h fail answer m' h' d → KeepsProtocol number same always m h m' h' d
      → After h ms i m' h' a
  step_leaves most why h ms i fail answer m m' h' d a p e g keeps =
      let o : EachKnown number same always a h i m = p.each i m e in
      let r : Keeps number same always i a m h m' h' d = keeps i a o.root p.tree p.words o.known in
      let KP : ℕ → Kind V → Type 0 = λ x y. Known number same always i r.notes h' x (key_bytes x) y m'.given m'.phase in
      let KQ : ℕ → Type 0 = λ x. KP x m'.kind in
      let KR : Kind V → Type 0 = λ y. KP m.key y in
      let known : Known number same always i r.notes h' m.key (key_bytes m.key) m.kind m'.given m'.phase = subst KR g.kind (subst KQ g.key r.known) in (
        r.notes,
        record {
          tree = r.effect.tree;
          words = r.effect.words;
          each = each_kept i a h ms r.notes m' h' p.each r.effect.others (record {
            root = ap number g.root ∙ o.root;
            key = (let P : ℕ → Type 0 = λ x. x < 2 ^ 64 in subst P (sym g.key) o.key);
            known = r.known;
          });
        },
        (λ s.
            let own : (n : ℕ) → (a n).owner ≡ Some i → LockedBy number m.phase n = own_before number same always i a h r.notes h' ms m m' e p.words p.tree r.effect.words r.effect.tree r.effect.fares s in
            let now : Now_after i a h r.notes h' m m' p.words p.tree r.effect.words r.effect.tree r.effect.fares = step_holds number same always i a h r.notes h' m.key p.words p.tree r.effect.words r.effect.tree r.effect.fares most why m.root m.kind fail answer m.given m.phase m'.given (record { phase = m'.phase; report = d })
            own
            (mine_before number same always i a h r.notes h' ms m m' e p.words p.tree r.effect.words r.effect.tree r.effect.fares s) o.known known g.step in (
              held_after number same always i a h r.notes h' ms m m' e p.words p.tree r.effect.words r.effect.tree r.effect.fares s now
                  (λ n l x. gone_taken number same always i r.notes h' m.key m.kind m'.given n r.effect.tree m'.phase known l x)
                  (λ n l. taken_on number same always i a h m.key m.kind m.given n most why m.root fail answer m.phase m'.given (record { phase = m'.phase; report = d }) h' g.step l),
              (λ hands. step_takes number same always most why i a h r.notes h' ms m m' e p.words p.tree r.effect.tree r.effect.fares
                  (λ n q. (own_rely i a h r.notes h' r.effect).published n tt q) r.effect.words own now.own o.known known m.root fail answer (record { phase = m'.phase; report = d }) refl g.step
                  (leaves_on number same always i a h h' m.key p.words p.tree most why m.root m.kind fail answer m.given m.phase m'.given (record { phase = m'.phase; report = d }) g.step) hands),
            )),
      )

  -- what it hands over
  abbrev Does : (ℕ → Node V) → Machine C V → (ℕ → Node V) → Machine C V → Type 0
  Does h m h' m' = SparesWaiting h h' ⊎ ((n : ℕ) × Gives number h m.phase n h' m'.phase)

  at_hand : (h : ℕ → Node V) (ms : List (Machine C V)) (p : Protocol number same always h ms) → ProtocolAt number same always p.notes h ms
  at_hand h ms p = record { tree = p.tree; words = p.words; each = p.each }

  -- how the step is watched: of a point call, or of a scan
  watched_as : (most : ℕ) (why : NodeType → Refusal → Type 0) (h : ℕ → Node V) (m m' : Machine C V) (h' : ℕ → Node V) (d : Move V) (i : ℕ) (fail : Bool) (answer : Option (Option V)) (a : ℕ → Note) (t : Tree a h) (w : LockWords a h)
      → EachKnown number same always a h i m → Stepped number same always most why m h fail answer m' h' d → StepAnswers same m.key m.kind m.given h (record { phase = m'.phase; report = d }) h'
      → (pairs : Pairs V) (f : Flight V) → IsMapOf h pairs → Follows m f → (m1 : Pairs V) × (f1 : Flight V) × IsMapOf h' m1 × Follows m' f1 × Watched same f pairs answer d f1 m1
  watched_as most why h m m' h' d i fail answer a t w o g n pairs f st (inl x) =
      let y : (m1 : Pairs V) × IsMapOf h' m1 × Watched same (flight m) pairs answer d (flight_in m.key m.kind m'.given m'.phase) m1
      = watched number same always most why i a h m.root m.key m.kind fail answer m.given m'.given (record { phase = m'.phase; report = d }) h' o.key pairs st m.phase (subst IsOfPoint x.1 x.0) o.known g.step n in
      let P : ℕ → Kind V → Type 0 = λ u v. Watched same (flight m) pairs answer d (flight_in u v m'.given m'.phase) y.0 in
      let Q : ℕ → Type 0 = λ u. P u m.kind in
      let R : Kind V → Type 0 = λ v. P m'.key v in
      let v : Watched same (flight m) pairs answer d (flight m') y.0 = subst R (sym g.kind) (subst Q (sym g.key) y.2) in
      let S : Flight V → Type 0 = λ u. Watched same u pairs answer d (flight m') y.0 in
      (y.0, flight m', y.1, inl (point_stays same (flight m) pairs answer d (flight m') y.0 (subst IsOfPoint x.1 x.0) v, refl), subst S (sym x.1) v)
  watched_as most why h m m' h' d i fail answer a t w o g n pairs f st (inr x) =
      let s : ScanState C V = x.0 in
      let P : Phase C V → Type 0 = λ y. PhaseStepped number same always most why m.root (key_bytes m.key) m.kind fail answer m.given y h m'.given (record { phase = m'.phase; report = d }) h' in
      let step : PhaseStepped number same always most why m.root (key_bytes m.key) m.kind fail answer m.given (Scan s) h m'.given (record { phase = m'.phase; report = d }) h' = subst P x.1 g.step in
      let K : Phase C V → Type 0 = λ y. Known number same always i a h m.key (key_bytes m.key) m.kind m.given y in
      let y = scan_watched number same always a h t w pairs st m.root o.root answer s step.2.0 step.2.1 f x.2 (subst K x.1 o.known) step.2.2 in
      let is : ◌≡◌ {A = NextPhase C V} (record { phase = m'.phase; report = d }) (after_scan step.2.0 step.2.1) = step.2.3 in
      let H : (ℕ → Node V) → Type 0 = λ u. IsMapOf u pairs in
      let D : Move V → Type 0 = λ u. Watched same f pairs answer u y.0 pairs in
      (pairs, y.0, subst H (sym step.0) st, inr (step.2.0, ap (λ (u : NextPhase C V). u.phase) is, y.2), subst D (sym (ap (λ (u : NextPhase C V). u.report) is)) y.1)

  -- the step of one call
  pub step_plays : (most : ℕ) (why : NodeType → Refusal → Type 0) (h : ℕ → Node V) (ms : List (Machine C V)) (s : Step C V) (m m' : Machine C V) (h' : ℕ → Node V) (d : Move V)
      → Protocol number same always h ms → slice_get ms s.who ≡ Some m → Stepped number same always most why m h s.noise.fail s.noise.answer m' h' d → KeepsProtocol number same always m h m' h' d
      → KeepsOrigin number same always m h m' h' → StepPlays number same always most why h ms s d h' (set ms s.who m')
  step_plays most why h ms s m m' h' d p e g keeps origin =
      let o : EachKnown number same always p.notes h s.who m = p.each s.who m e in
      let r : Keeps number same always s.who p.notes m h m' h' d = keeps s.who p.notes o.root p.tree p.words o.known in
      let t : NextPhase C V = record { phase = m'.phase; report = d } in
      let does : Does h m h' m' = step_hands number same always s.who p.notes h h' m.key p.words p.tree most why m.root m.kind s.noise.fail s.noise.answer m.given m.phase m'.given t o.known g.step in
      let hands : StepHands number h ms s.who h' (set ms s.who m') = stepped_hands number h ms s.who m m' h' e
      (leaves_on number same always s.who p.notes h h' m.key p.words p.tree most why m.root m.kind s.noise.fail s.noise.answer m.given m.phase m'.given t g.step) does in
      let cause : IsCause why most always m.phase d.outcome
      = caused number same always most why s.who p.notes h h' m.key (key_bytes m.key) m.root m.kind s.noise.fail s.noise.answer m.given m.phase m'.given t o.known g.step in
      let q : After h ms s.who m' h' p.notes = step_leaves most why h ms s.who s.noise.fail s.noise.answer m m' h' d p.notes (at_hand h ms p) e g keeps in
      record {
        protocol = record {
          notes = q.0;
          tree = q.1.tree;
          words = q.1.words;
          each = q.1.each;
        };
        next = (let P : Option (Machine C V) → Type 0 = λ o. NextAt number same always most why h ms o s d h' (set ms s.who m') in subst P (sym e) (m', g, cause, refl));
        moved = λ y f.
            let z : Some m ≡ Some y = sym e ∙ f in
            let q : m ≡ y = cc in
            let P : Machine C V → Type 0 = λ x. IsMoved number same always most why h ms x s d h' (set ms s.who m') in
            subst P q (record { now = m'; calls = refl; step = g; keeps = keeps; origin = origin; cause = cause });
        settled = λ a x y.
            let z : After h ms s.who m' h' a = step_leaves most why h ms s.who s.noise.fail s.noise.answer m m' h' d a x e g keeps in (z.0, z.1, (z.2 y).0);
        takes = λ a x y. let z : After h ms s.who m' h' a = step_leaves most why h ms s.who s.noise.fail s.noise.answer m m' h' d a x e g keeps in (z.2 y).1 hands;
        watched = λ pairs fs st fl.
            let at = follow_at ms fs s.who m fl e in
            let w : (m1 : Pairs V) × (f1 : Flight V) × IsMapOf h' m1 × Follows m' f1 × Watched same at.0 pairs s.noise.answer d f1 m1
            = watched_as most why h m m' h' d s.who s.noise.fail s.noise.answer p.notes p.tree p.words o g r.answer pairs at.0 st at.2 in
            let T : Option (Flight V) → Type 0 = λ z. WatchedAt same fs pairs z s d (set fs s.who w.1) w.0 in
            (w.0, set fs s.who w.1, w.2, follow_set ms fs s.who m' w.1 fl w.3, subst T (sym at.1) (w.1, w.4, refl));
        hands = hands;
        untouched = stepped_apart number h ms s.who m m' h' e does;
      }

  -- the step of a call that isn't there
  pub idled : (most : ℕ) (why : NodeType → Refusal → Type 0) (h : ℕ → Node V) (ms : List (Machine C V)) (s : Step C V) → Protocol number same always h ms → length ms ≤ s.who
      → StepPlays number same always most why h ms s (record { decided = false; skipped = false; outcome = Running }) h ms
  idled most why h ms s p l = record {
    protocol = p;
    next = (let P : Option (Machine C V) → Type 0 = λ o. NextAt number same always most why h ms o s (record { decided = false; skipped = false; outcome = Running }) h ms in subst P (sym (slice_get_past ms s.who l)) (refl, refl, refl));
    moved = λ m e. let z : ◌≡◌ {A = Option (Machine C V)} None (Some m) = sym (slice_get_past ms s.who l) ∙ e in absurd cc;
    settled = λ a x y. (a, x, y);
    watched = λ pairs fs st fl.
        let T : Option (Flight V) → Type 0 = λ z. WatchedAt same fs pairs z s (record { decided = false; skipped = false; outcome = Running }) fs pairs in
        (pairs, fs, st, fl, subst T (sym (follow_none ms fs s.who fl l)) (refl, refl, refl));
    hands = idle_hands number h ms s.who;
    untouched = λ n x. refl;
    takes = λ a x y. idle_takes number h ms s.who (idle_hands number h ms s.who) (λ by l j. refl);
  }

  -- a call that has not begun knows what its phase says
  pub begin_known : (i : ℕ) (a : ℕ → Note) (h : ℕ → Node V) (k : ℕ) (kind : Kind V) (given : Option V) (x : Phase C V) → IsBegin kind given x → Known number same always i a h k (key_bytes k) kind given x
  begin_known i a h k kind given New n = n
  begin_known i a h k kind given (Scan s) n = let P : Stage C V → Type 0 = λ y. ScanKnownAt number always a h s y in subst P (sym n.0) n.1
  begin_known i a h k kind given _ n = absurd n

  -- a tree at rest, beside calls that have not begun
  pub rested : (h : ℕ → Node V) (ms : List (Machine C V)) (a : ℕ → Note) → Rests {V = V} number a h → Holdings number a h ms
  rested h ms a r = record {
    owned = λ n i o. let x : (m : Machine C V) × (slice_get [] i ≡ Some m) × LockedBy number m.phase n = r.owned n i o in let z : None ≡ Some x.0 = x.1 in absurd cc;
    held = λ n i o. let x : (m : Machine C V) × (slice_get [] i ≡ Some m) × MadeBy number m.phase n = r.held n i o in let z : None ≡ Some x.0 = x.1 in absurd cc;
    locked = r.locked;
    gone = λ n g. elim (r.gone n g) [
      | inl x ↦ inl x
      | inr x ↦ absurd (let z : None ≡ Some x.1 = x.2 in cc)
    ];
    spent = r.spent;
    unmade = r.unmade;
  }

-- on a store that refuses nodes for these reasons
module _ {C V : Type 0} (number : C → ℕ) (same : V → V → Bool) (always : Bool) (most : ℕ) (why : (ℕ → Node V) → NodeType → Refusal → Type 0) where
  chain_more : (h : ℕ → Node V) (ms : List (Machine C V)) (fs : List (Flight V)) (m : Pairs V) (ss : List (Step C V)) (ds : List (Move V)) (h1 : ℕ → Node V) (ms1 : List (Machine C V)) (fs1 : List (Flight V)) (m1 : Pairs V)
      (s : Step C V) (d : Move V) (h2 : ℕ → Node V) (ms2 : List (Machine C V)) (fs2 : List (Flight V)) (m2 : Pairs V)
      → Chain number same always most why h ms fs m ss ds h1 ms1 fs1 m1 → IsMapOf h2 m2 → Following ms2 fs2 → NextAt number same always most (why h1) h1 ms1 (slice_get ms1 s.who) s d h2 ms2 → WatchedAt same fs1 m1 (slice_get fs1 s.who) s d fs2 m2
      → Chain number same always most why h ms fs m (ss ++ s ∷ []) (ds ++ d ∷ []) h2 ms2 fs2 m2
  chain_more h ms fs m [] [] h1 ms1 fs1 m1 s d h2 ms2 fs2 m2 r st fl n q =
      let P : (ℕ → Node V) → Type 0 = λ x. NextAt number same always most (why x) x ms (slice_get ms s.who) s d h2 ms2 in
      let Q : List (Machine C V) → Type 0 = λ x. NextAt number same always most (why h1) h1 x (slice_get x s.who) s d h2 ms2 in
      let R : List (Flight V) → Type 0 = λ x. WatchedAt same x m (slice_get x s.who) s d fs2 m2 in
      let T : Pairs V → Type 0 = λ x. WatchedAt same fs1 x (slice_get fs1 s.who) s d fs2 m2 in
      (h2, ms2, fs2, m2, st, fl, subst P r.0 (subst Q r.1 n), subst R r.2 (subst T r.3 q), (refl, refl, refl, refl))
  chain_more h ms fs m [] (y ∷ ds) h1 ms1 fs1 m1 s d h2 ms2 fs2 m2 r st fl n q = absurd r
  chain_more h ms fs m (x ∷ ss) [] h1 ms1 fs1 m1 s d h2 ms2 fs2 m2 r st fl n q = absurd r
  chain_more h ms fs m (x ∷ ss) (y ∷ ds) h1 ms1 fs1 m1 s d h2 ms2 fs2 m2 r st fl n q =
      (r.0, r.1, r.2, r.3, r.4, r.5, r.6, r.7, chain_more r.0 r.1 r.2 r.3 ss ds h1 ms1 fs1 m1 s d h2 ms2 fs2 m2 r.8 st fl n q)

  -- one step more of a trace
  traced_more : (h : ℕ → Node V) (ms : List (Machine C V)) (ts : List (Traced C V)) (t : Traced C V) → AreTraced number same always most why h ms ts
      → NextAt number same always most (why (nodes_after h ts)) (nodes_after h ts) (calls_after ms ts) (slice_get (calls_after ms ts) t.step.who) t.step t.move t.nodes t.calls → AreTraced number same always most why h ms (ts ++ t ∷ [])
  traced_more h ms [] t r n = (n, tt)
  traced_more h ms (x ∷ ts) t r n = (r.0, traced_more x.nodes x.calls ts t r.1 n)

  nodes_more : (h : ℕ → Node V) (ts : List (Traced C V)) (t : Traced C V) → nodes_after h (ts ++ t ∷ []) ≡ t.nodes
  nodes_more h [] t = refl
  nodes_more h (x ∷ ts) t = nodes_more x.nodes ts t

  calls_more : (ms : List (Machine C V)) (ts : List (Traced C V)) (t : Traced C V) → calls_after ms (ts ++ t ∷ []) ≡ t.calls
  calls_more ms [] t = refl
  calls_more ms (x ∷ ts) t = calls_more x.calls ts t

  map_more : {A B : Type 0} (f : A → B) (xs : List A) (x : A) → map f (xs ++ x ∷ []) ≡ map f xs ++ f x ∷ []
  map_more f [] x = refl
  map_more f (y ∷ xs) x = ap (λ zs. f y ∷ zs) (map_more f xs x)

  trace_more : (h : ℕ → Node V) (ms : List (Machine C V)) (ss : List (Step C V)) (ds : List (Move V)) (h1 : ℕ → Node V) (ms1 : List (Machine C V)) (s : Step C V) (d : Move V) (h2 : ℕ → Node V) (ms2 : List (Machine C V))
      → IsTrace number same always most why h ms ss ds h1 ms1 → NextAt number same always most (why h1) h1 ms1 (slice_get ms1 s.who) s d h2 ms2 → IsTrace number same always most why h ms (ss ++ s ∷ []) (ds ++ d ∷ []) h2 ms2
  trace_more h ms ss ds h1 ms1 s d h2 ms2 r q =
      let t : Traced C V = record { step = s; move = d; nodes = h2; calls = ms2 } in
      let P : (ℕ → Node V) → Type 0 = λ x. NextAt number same always most (why x) x (calls_after ms r.traced) (slice_get (calls_after ms r.traced) s.who) s d h2 ms2 in
      let Q : List (Machine C V) → Type 0 = λ x. NextAt number same always most (why h1) h1 x (slice_get x s.who) s d h2 ms2 in
      record {
        traced = r.traced ++ t ∷ [];
        each = traced_more h ms r.traced t r.each (subst P (sym r.nodes_are) (subst Q (sym r.calls_are) q));
        steps_are = map_more (λ (x : Traced C V). x.step) r.traced t ∙ ap (λ xs. xs ++ s ∷ []) r.steps_are;
        moves_are = map_more (λ (x : Traced C V). x.move) r.traced t ∙ ap (λ xs. xs ++ d ∷ []) r.moves_are;
        nodes_are = nodes_more h r.traced t;
        calls_are = calls_more ms r.traced t;
      }

  -- what the calls hold is their own
  apart : (h : ℕ → Node V) (ms : List (Machine C V)) → Protocol number same always h ms → Apart number h ms
  apart h ms p = record {
    locked = λ i n m e l. owner_locked p.notes h p.words n i (owns i n m e l);
    locks = λ i j n m k ne e f l o. let z : Some i ≡ Some j = sym (owns i n m e l) ∙ owns j n k f o in ne cc;
    nodes = λ i j n m k ne e f l o. let z : Held i ≡ Held j = sym (holds i n m e l) ∙ holds j n k f o in ne cc;
  } where
    owns : (i n : ℕ) (m : Machine C V) → slice_get ms i ≡ Some m → LockedBy number m.phase n → (p.notes n).owner ≡ Some i
    owns i n m e l = locks_owned number same always i p.notes h m.key m.kind m.given n m.phase (p.each i m e).known l

    holds : (i n : ℕ) (m : Machine C V) → slice_get ms i ≡ Some m → MadeBy number m.phase n → (p.notes n).status ≡ Held i
    holds i n m e l = made_held number same always i p.notes h m.key m.kind m.given n m.phase (p.each i m e).known l

  more_map : (near : NodeType → Refusal → Type 0) (h0 : ℕ → Node V) (ms0 : List (Machine C V)) (ss : List (Step C V)) (ds : List (Move V)) (h : ℕ → Node V) (ms : List (Machine C V)) (s : Step C V) (d : Move V) (h' : ℕ → Node V) (ms' : List (Machine C V)) (m : Pairs V) → ((form : NodeType) (e : Refusal) → near form e → why h form e)
      → (m1 : Pairs V) × (fs : List (Flight V)) × IsMapOf h m1 × Following ms fs × Chain number same always most why h0 ms0 (map flight ms0) m ss ds h ms fs m1 → StepPlays number same always most near h ms s d h' ms'
      → (m2 : Pairs V) × (fs2 : List (Flight V)) × IsMapOf h' m2 × Following ms' fs2 × Chain number same always most why h0 ms0 (map flight ms0) m (ss ++ s ∷ []) (ds ++ d ∷ []) h' ms' fs2 m2
  more_map near h0 ms0 ss ds h ms s d h' ms' m f r q =
      let w : (m2 : Pairs V) × (fs2 : List (Flight V)) × IsMapOf h' m2 × Following ms' fs2 × WatchedAt same r.1 r.0 (slice_get r.1 s.who) s d fs2 m2 = q.watched r.0 r.1 r.2 r.3 in
      (w.0, w.1, w.2, w.3, chain_more h0 ms0 (map flight ms0) m ss ds h ms r.1 r.0 s d h' ms' w.1 w.0 r.4 w.2 w.3 (next_weaker number same always most near (why h) h ms (slice_get ms s.who) s d h' ms' f q.next) w.4)

  -- one step more
  plays_more : (near : NodeType → Refusal → Type 0) (h0 : ℕ → Node V) (ms0 : List (Machine C V)) (ss : List (Step C V)) (ds : List (Move V)) (h : ℕ → Node V) (ms : List (Machine C V)) (s : Step C V) (d : Move V) (h' : ℕ → Node V) (ms' : List (Machine C V))
      → ((form : NodeType) (e : Refusal) → near form e → why h form e) → Plays number same always most why h0 ms0 ss ds h ms → StepPlays number same always most near h ms s d h' ms' → Plays number same always most why h0 ms0 (ss ++ s ∷ []) (ds ++ d ∷ []) h' ms'
  plays_more near h0 ms0 ss ds h ms s d h' ms' f p q = record {
    protocol = q.protocol;
    run = λ m st. more_map near h0 ms0 ss ds h ms s d h' ms' m f (p.run m st) q;
    from_root = λ o. more_map near h0 ms0 ss ds h ms s d h' ms' empty f (p.from_root o) q;
    apart = apart h' ms' q.protocol;
    by = (q.hands p.by p.handing.leaving).0;
    handing = handing_more p.by h0 ss h ms s (q.hands p.by p.handing.leaving).0 h' ms' p.handing q.protocol.notes q.protocol.tree q.protocol.words q.untouched (q.hands p.by p.handing.leaving).2 (q.hands p.by p.handing.leaving).1;
    unlinking = λ a t w r.
        let x : Settled number same always h ms = p.settled a t w r in
        let y : Settled number same always h' ms' = q.settled x.0 x.1 x.2 in
        unlinking_more number p.by h0 ss h ms s h' ms' p.handing.leaving q.hands (q.takes x.0 x.1 x.2) (p.unlinking a t w r) (accounted number y.0 h' ms' y.1.tree y.2);
    unlinking_fresh = λ o.
        let x : Settled number same always h ms = p.settled_fresh o in
        let y : Settled number same always h' ms' = q.settled x.0 x.1 x.2 in
        unlinking_more number p.by h0 ss h ms s h' ms' p.handing.leaving q.hands (q.takes x.0 x.1 x.2) (p.unlinking_fresh o) (accounted number y.0 h' ms' y.1.tree y.2);
    settled = λ a t w r. let x : Settled number same always h ms = p.settled a t w r in q.settled x.0 x.1 x.2;
    settled_fresh = λ o. let x : Settled number same always h ms = p.settled_fresh o in q.settled x.0 x.1 x.2;
  }

  -- calls that have not begun know what they are to know
  begun_at : (h : ℕ → Node V) (ms : List (Machine C V)) → Begins number h ms → (a : ℕ → Note) → Tree a h → LockWords a h → ProtocolAt number same always a h ms
  begun_at h ms b a t w = record {
    tree = t;
    words = w;
    each = λ i m e. record {
      root = b.root i m e;
      key = (b.new i m e).key;
      known = begin_known number same always i a h m.key m.kind m.given m.phase (b.new i m e).begins;
    };
  }

  begun_protocol : (h : ℕ → Node V) (ms : List (Machine C V)) → Begins number h ms → Protocol number same always h ms
  begun_protocol h ms b = let p : ProtocolAt number same always b.notes h ms = begun_at h ms b b.notes b.tree b.words in record { notes = b.notes; tree = p.tree; words = p.words; each = p.each }

  none_taken : (h : ℕ → Node V) (ms : List (Machine C V)) → Begins number h ms → (i n : ℕ) (m : Machine C V) → slice_get ms i ≡ Some m → TakenBy number m.phase n → ⊥
  none_taken h ms b i n m e x = of m.kind m.given m.phase (b.new i m e).begins x
    where
      of : (kind : Kind V) (given : Option V) (y : Phase C V) → IsBegin kind given y → TakenBy number y n → ⊥
      of kind given New g x = x
      of kind given (Scan s) g x = x
      of kind given _ g x = g

  -- calls that have not begun have played no steps
  pub plays_none : (h : ℕ → Node V) (ms : List (Machine C V)) → Begins number h ms → Plays number same always most why h ms [] [] h ms
  plays_none h ms b = record {
    protocol = begun_protocol h ms b;
    run = λ m st. (m, map flight ms, st, follow_new ms b.new, (refl, refl, refl, refl));
    from_root = λ o. (empty, map flight ms, standing_none h o, follow_new ms b.new, (refl, refl, refl, refl));
    apart = apart h ms (begun_protocol h ms b);
    by = λ _. [];
    handing = handing_none h ms b.notes b.tree b.words;
    unlinking = λ a t w r. unlinking_none number h ms (none_taken h ms b) (accounted number a h ms t (rested number same always h ms a r));
    unlinking_fresh = λ o. unlinking_none number h ms (none_taken h ms b) (accounted number opened h ms (opening_tree h o.alone) (rested number same always h ms opened (opening_rests number h o)));
    settled = λ a t w r. (a, begun_at h ms b a t w, rested number same always h ms a r);
    settled_fresh = λ o. (opened, begun_at h ms b opened (opening_tree h o.alone) (opening_words h o.alone), rested number same always h ms opened (opening_rests number h o));
  }

  -- how far the steps have come: those taken and those left
  pub record Progress (h0 : ℕ → Node V) (ms0 : List (Machine C V)) (all rest : List (Step C V)) (done : ℕ) (ds : List (Move V)) (h : ℕ → Node V) (ms : List (Machine C V)) : Type 0 where
    pub taken : List (Step C V)
    pub split : all ≡ taken ++ rest
    pub count : length taken ≡ done
    pub plays : Plays number same always most why h0 ms0 taken ds h ms
    pub trace : IsTrace number same always most why h0 ms0 taken ds h ms

  -- before the first step none is taken, and all are left
  pub progress_none : (h : ℕ → Node V) (ms : List (Machine C V)) (all rest : List (Step C V)) (done : ℕ) (ds : List (Move V)) → rest ≡ all → done ≡ 0 → ds ≡ [] → Begins number h ms → Progress h ms all rest done ds h ms
  progress_none h ms all rest done ds e n q b = record {
    taken = [];
    split = sym e;
    count = sym n;
    plays = (let P : List (Move V) → Type 0 = λ x. Plays number same always most why h ms [] x h ms in subst P (sym q) (plays_none h ms b));
    trace = record { traced = []; each = tt; steps_are = refl; moves_are = sym q; nodes_are = refl; calls_are = refl };
  }

  -- with one step more that one is taken, and one fewer is left
  pub progress_more : (near : NodeType → Refusal → Type 0) (h0 : ℕ → Node V) (ms0 : List (Machine C V)) (all rest rest' : List (Step C V)) (done done1 done' : ℕ) (ds ds1 ds' : List (Move V)) (h : ℕ → Node V) (ms : List (Machine C V)) (s : Step C V) (d : Move V) (h' : ℕ → Node V) (ms' : List (Machine C V))
      → Progress h0 ms0 all rest done ds h ms → rest ≡ s ∷ rest' → done1 ≡ done → done' ≡ done1 + 1 → ds1 ≡ ds → ds' ≡ ds1 ++ d ∷ [] → ((form : NodeType) (e : Refusal) → near form e → why h form e) → StepPlays number same always most near h ms s d h' ms' → Progress h0 ms0 all rest' done' ds' h' ms'
  progress_more near h0 ms0 all rest rest' done done1 done' ds ds1 ds' h ms s d h' ms' p e n1 n q1 q f x = record {
    taken = p.taken ++ s ∷ [];
    split = p.split ∙ (ap (λ x. p.taken ++ x) e ∙ sym (append_assoc p.taken (s ∷ []) rest'));
    count = (let l : length (p.taken ++ s ∷ []) ≡ length p.taken + 1 = length-append p.taken (s ∷ []) in let c : length p.taken ≡ done = p.count in omega (arith, l, c, n1, n));
    plays = (let P : List (Move V) → Type 0 = λ y. Plays number same always most why h0 ms0 (p.taken ++ s ∷ []) y h' ms' in
        subst P (sym (q ∙ ap (λ y. y ++ d ∷ []) q1)) (plays_more near h0 ms0 p.taken ds h ms s d h' ms' f p.plays x));
    trace = (let P : List (Move V) → Type 0 = λ y. IsTrace number same always most why h0 ms0 (p.taken ++ s ∷ []) y h' ms' in
        subst P (sym (q ∙ ap (λ y. y ++ d ∷ []) q1)) (trace_more h0 ms0 p.taken ds h ms s d h' ms' p.trace (next_weaker number same always most near (why h) h ms (slice_get ms s.who) s d h' ms' f x.next)));
  }

  -- the steps taken and those left are all
  pub progress_stops : (h0 : ℕ → Node V) (ms0 : List (Machine C V)) (all rest : List (Step C V)) (done : ℕ) (ds : List (Move V)) (h : ℕ → Node V) (ms : List (Machine C V)) → Progress h0 ms0 all rest done ds h ms → length all ≡ done + length rest
  progress_stops h0 ms0 all rest done ds h ms p =
      let l : length all ≡ length p.taken + length rest = ap length p.split ∙ length-append p.taken rest in
      let c : length p.taken ≡ done = p.count in
      omega (arith, l, c)

  -- the steps taken are the first ones of all
  taken_first : (h0 : ℕ → Node V) (ms0 : List (Machine C V)) (all rest : List (Step C V)) (done done' : ℕ) (ds : List (Move V)) (h : ℕ → Node V) (ms : List (Machine C V)) → (p : Progress h0 ms0 all rest done ds h ms) → done' ≡ done → take done' all ≡ p.taken
  taken_first h0 ms0 all rest done done' ds h ms p n = ap (λ x. take x all) (n ∙ sym p.count) ∙ (ap (take (length p.taken)) p.split ∙ take-append_seam p.taken rest)

  -- the steps taken, so many of all, are played
  pub progress_end : (h0 : ℕ → Node V) (ms0 : List (Machine C V)) (all rest : List (Step C V)) (done done' : ℕ) (ds ds' : List (Move V)) (h : ℕ → Node V) (ms : List (Machine C V))
      → Progress h0 ms0 all rest done ds h ms → done' ≡ done → ds' ≡ ds → Plays number same always most why h0 ms0 (take done' all) ds' h ms
  progress_end h0 ms0 all rest done done' ds ds' h ms p n q =
      let e = taken_first h0 ms0 all rest done done' ds h ms p n in
      let P : List (Step C V) → Type 0 = λ x. Plays number same always most why h0 ms0 x ds' h ms in
      let Q : List (Move V) → Type 0 = λ x. Plays number same always most why h0 ms0 p.taken x h ms in subst P (sym e) (subst Q (sym q) p.plays)

  -- the steps taken, so many of all, are a trace
  pub trace_end : (h0 : ℕ → Node V) (ms0 : List (Machine C V)) (all rest : List (Step C V)) (done done' : ℕ) (ds ds' : List (Move V)) (h : ℕ → Node V) (ms : List (Machine C V))
      → Progress h0 ms0 all rest done ds h ms → done' ≡ done → ds' ≡ ds → IsTrace number same always most why h0 ms0 (take done' all) ds' h ms
  trace_end h0 ms0 all rest done done' ds ds' h ms p n q =
      let e = taken_first h0 ms0 all rest done done' ds h ms p n in
      let P : List (Step C V) → Type 0 = λ x. IsTrace number same always most why h0 ms0 x ds' h ms in
      let Q : List (Move V) → Type 0 = λ x. IsTrace number same always most why h0 ms0 p.taken x h ms in subst P (sym e) (subst Q (sym q) p.trace)
