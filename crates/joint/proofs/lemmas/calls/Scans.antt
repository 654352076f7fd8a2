-- A scan that begins and is done in a run found what it promises, by the pairs that stood meanwhile.
use Rattle.std.proofs.Common.{◌≡◌, ◌≢◌, ◌≤◌, ◌==◌, ◌&&◌, ℕ, Bool, true, false, List, [], ◌∷◌, ◌++◌, refl, sym, ◌∙◌, ap, subst, inl, inr, ◌⊎◌}
use Rattle.std.specs.Prelude.{Option, Some, IsSome, length, map, take}
use Rattle.std.specs.FinMap.{get}
use Rattle.std.proofs.lemmas.Bool.{cases_Bool, eqb-true, eqb-false}
use Rattle.judge.specs.Answer.{Pairs}
use Rattle.congee.specs.declared.protocol.machine.Outcome.{Outcome as Moved}
use Rattle.congee.specs.declared.protocol.machine.Outcome.TheVariants as moved
use Rattle.congee.specs.declared.protocol.op.Op.{Op as Point}
use Rattle.congee.specs.declared.protocol.op.Op.TheVariants as point
use Rattle.congee.specs.protocol.Play.{Flight, Pending, Decided, Over, Unbegun, Scanning, ScanTells, IsScanOf, IsOfRange, begun, flight, range_of as range_in}
use Rattle.congee.specs.protocol.Scans.{IsScan, Stood, AllStood, Throughout}
use Rattle.joint.specs.declared.steps.Done.TheVariants.{Scanned}
use Rattle.joint.specs.declared.steps.Event.{Event}
use Rattle.joint.specs.declared.steps.Event.TheVariants.{Register, Begin, Go}
use Rattle.joint.specs.declared.steps.Op.{Op}
use Rattle.joint.specs.declared.steps.Op.TheVariants as call
use Rattle.joint.specs.declared.steps.Outcome.{Outcome}
use Rattle.joint.specs.declared.steps.Outcome.TheVariants.{Running, Asks, Found, Registered, Done, Refused}
use Rattle.joint.specs.declared.steps.Target.{Target}
use Rattle.joint.specs.declared.steps.Target.TheVariants as target
use Rattle.joint.specs.Reports.{goes_unasked, range_of, target, told}
use Rattle.joint.specs.Names.{root}
use Rattle.joint.specs.calls.Runs.{IsMapRun, pairs_after}
use Rattle.joint.specs.world.MapSteps.{MapStep, EventMap, GoMap, ScanStep, BeginMap, BeginsOr, EndsEmpty, Line}
use Rattle.joint.specs.engine.Flying.{Flights, with_flight}
use Rattle.joint.specs.calls.Scans.{is_go, goes, placed, told_to, Comes, AllCome, BeginsScan, GoesOn, EndsScan, ScansHold, EmptyScansHold}
use Rattle.congee.proofs.Laws.{of_range, both_true}
use Rattle.joint.proofs.lemmas.world.Flights.{ends_stays, flight_here, flight_apart}

-- one of several
abbrev pub Among : {A : Type 0} → List A → A → Type 0
Among [] x = ⊥
Among (y ∷ ys) x = (y ≡ x) ⊎ Among ys x

module _ {V : Type 0} where
  -- a scan keeps its promise by more maps
  stood_one : (m : Pairs V) (all : List (Pairs V)) (k : ℕ) (v : V) → Among all m → get m k ≡ Some v → Stood all k v
  stood_one m [] k v a e = absurd a
  stood_one m (x ∷ all) k v (inl q) e = inl (ap (λ y. get y k) q ∙ e)
  stood_one m (x ∷ all) k v (inr a) e = inr (stood_one m all k v a e)

  stood_more : (few all : List (Pairs V)) (k : ℕ) (v : V) → ((x : Pairs V) → Among few x → Among all x) → Stood few k v → Stood all k v
  stood_more [] all k v more s = absurd s
  stood_more (m ∷ few) all k v more (inl e) = stood_one m all k v (more m (inl refl)) e
  stood_more (m ∷ few) all k v more (inr s) = stood_more few all k v (λ x a. more x (inr a)) s

  all_stood_more : (few all : List (Pairs V)) (found : List (ℕ × V)) → ((x : Pairs V) → Among few x → Among all x) → AllStood few found → AllStood all found
  all_stood_more few all [] more s = tt
  all_stood_more few all ((k, v) ∷ found) more s = (stood_more few all k v more s.0, all_stood_more few all found more s.1)

  has_one : (m : Pairs V) (all : List (Pairs V)) (k : ℕ) → Among all m → Throughout all k → IsSome (get m k)
  has_one m [] k a t = absurd a
  has_one m (x ∷ all) k (inl q) t = let P : Pairs V → Type 0 = λ y. IsSome (get y k) in subst P q t.0
  has_one m (x ∷ all) k (inr a) t = has_one m all k a t.1

  has_more : (few all : List (Pairs V)) (k : ℕ) → ((x : Pairs V) → Among few x → Among all x) → Throughout all k → Throughout few k
  has_more [] all k more t = tt
  has_more (m ∷ few) all k more t = (has_one m all k (more m (inl refl)) t, has_more few all k (λ x a. more x (inr a)) t)

  scan_more : (start end size : ℕ) (few all : List (Pairs V)) (found : List (ℕ × V)) → ((x : Pairs V) → Among few x → Among all x) → IsScan start end size few found → IsScan start end size all found
  scan_more start end size few all found more s = record {
    rises = s.rises;
    few = s.few;
    within = s.within;
    stood = all_stood_more few all found more s.stood;
    complete = λ k a b t. s.complete k a b (has_more few all k more t);
  }

  -- a call on a range is a scan of it
  pub record OnRange (op : Op V) (start end size : ℕ) : Type 0 where
    pub point : Point V
    pub on_tree : target op ≡ target.Tree point
    pub range : range_in point ≡ Some (start, end, size)

  -- a call with this range is a scan of it
  pub on_range : (op : Op V) (start end size : ℕ) → range_of op ≡ Some (start, end, size) → OnRange op start end size
  on_range (call.Range a b c) start end size e = record { point = point.Range a b c; on_tree = refl; range = e }
  on_range (call.RangeInclusive a b c) start end size e = record { point = point.RangeInclusive a b c; on_tree = refl; range = e }
  on_range _ start end size e = absurd (cc e)

module _ {V : Type 0} (same : V → V → Bool) where
  -- a later part of a run is one
  pub later : (fs : Flights V) (m : Pairs V) (before ls : List (Line V)) (fs' : Flights V) → IsMapRun same fs m (before ++ ls) fs' → (fs1 : Flights V) × IsMapRun same fs1 (pairs_after m before) ls fs'
  later fs m [] ls fs' r = (fs, r)
  later fs m (l ∷ before) ls fs' r = later r.0 l.pairs before ls fs' r.2

  module _ (w start end size : ℕ) (all : List (Pairs V)) where
    -- the scan is in flight, and has looked at some of the maps
    abbrev pub Under : Flights V → List (ℕ × V) → Type 0
    Under fs places = ((fs w ≡ Unbegun start end size) × (places ≡ []))
        ⊎ ((states : List (Pairs V)) × (fs w ≡ Scanning start end size states places) × ((x : Pairs V) → Among states x → Among all x))

    out : (fs : Flights V) (places : List (ℕ × V)) → Under fs places → fs w ≡ Over → ⊥
    out fs places (inl u) e = absurd (let q : Unbegun start end size ≡ Over = sym u.0 ∙ e in cc)
    out fs places (inr u) e = absurd (let q : Scanning start end size u.0 places ≡ Over = sym u.1 ∙ e in cc)

    -- what its next step is
    pub record Next (fs : Flights V) (m : Pairs V) (places : List (ℕ × V)) (l : Line V) (fs1 : Flights V) : Type 0 where
      pub states : List (Pairs V)
      pub among : (x : Pairs V) → Among states x → Among all x
      pub next : Flight V
      pub step : ScanStep start end size states places m l next
      pub flights : fs1 ≡ with_flight fs w next

    own_step : (fs : Flights V) (m : Pairs V) (places : List (ℕ × V)) (l : Line V) (fs1 : Flights V) (answer : Option (Option V)) → Among all m → Under fs places → l.step.worker ≡ w → GoMap same fs (fs l.step.worker) m answer l fs1 → Next fs m places l fs1
    own_step fs m places l fs1 answer am (inl u) e g =
        let P : Flight V → Type 0 = λ f. GoMap same fs f m answer l fs1 in
        let a = subst P (ap fs e ∙ u.0) g in
        let Q : List (ℕ × V) → Type 0 = λ ps. ScanStep start end size (m ∷ []) ps m l a.next in
        record {
          states = m ∷ [];
          among = λ x i. elim i [
            | inl q ↦ (let R : Pairs V → Type 0 = λ y. Among all y in subst R q am)
            | inr q ↦ absurd q
          ];
          next = a.next;
          step = subst Q (sym u.1) a.step;
          flights = a.with_next ∙ ap (λ v. with_flight fs v a.next) e;
        }
    own_step fs m places l fs1 answer am (inr u) e g =
        let P : Flight V → Type 0 = λ f. GoMap same fs f m answer l fs1 in
        let a = subst P (ap fs e ∙ u.1) g in
        record {
          states = m ∷ u.0;
          among = λ x i. elim i [
            | inl q ↦ (let R : Pairs V → Type 0 = λ y. Among all y in subst R q am)
            | inr q ↦ u.2 x q
          ];
          next = a.next;
          step = a.step;
          flights = a.with_next ∙ ap (λ v. with_flight fs v a.next) e;
        }

    go_step : (fs : Flights V) (m : Pairs V) (places : List (ℕ × V)) (l : Line V) (fs1 : Flights V) (event : Event V) → l.step.event ≡ event → Among all m → Under fs places → l.step.worker ≡ w → is_go event ≡ true → EventMap same fs m event l fs1 → Next fs m places l fs1
    go_step fs m places l fs1 (Go noise) q am u e g x = own_step fs m places l fs1 noise.answer am u e x
    go_step fs m places l fs1 Register q am u e g x = absurd (cc g)
    go_step fs m places l fs1 (Begin op) q am u e g x = absurd (cc g)

    -- a further step of the scan under way is one of a scan by the maps that stood
    pub goes_step : (fs : Flights V) (m : Pairs V) (places : List (ℕ × V)) (l : Line V) (fs1 : Flights V) → Among all m → Under fs places → goes w l ≡ true → MapStep same fs m l fs1 → Next fs m places l fs1
    goes_step fs m places l fs1 am u g x =
        let b = both_true (l.step.worker == w) (is_go l.step.event) g in
        go_step fs m places l fs1 l.step.event refl am u (eqb-true l.step.worker w b.0) b.1 x

    -- a scan that is done has found what a scan promises by all maps that stood
    pub ends : (fs : Flights V) (m : Pairs V) (places : List (ℕ × V)) (l : Line V) (fs1 : Flights V) (count : ℕ) → Next fs m places l fs1 → l.report.outcome ≡ Done (Scanned count) → (count ≤ length places) × IsScan start end size all (take count places)
    ends fs m places l fs1 count n done = by_outcome n.step.outcome (sym n.step.told_so ∙ done) n.step.tells
      where
        by_outcome : (o : Moved V) → told o ≡ Done (Scanned count) → ScanTells start end size n.states places o n.next → (count ≤ length places) × IsScan start end size all (take count places)
        by_outcome (moved.Scanned c) e t =
            let q : c ≡ count = cc in
            let P : ℕ → Type 0 = λ x. (x ≤ length places) × IsScan start end size n.states (take x places) in
            let y : P count = subst P q (t.0, t.1) in
            (y.0, scan_more start end size n.states all (take count places) n.among y.1)
        by_outcome moved.Running e t = absurd (cc e)
        by_outcome (moved.Asks o) e t = absurd t
        by_outcome (moved.Found place key x) e t = absurd (cc e)
        by_outcome (moved.Done r) e t = absurd t
        by_outcome (moved.Refused c) e t = absurd (cc e)

    -- a scan that goes on is under way still, and its pair comes to its place
    pub goes_further : (fs : Flights V) (m : Pairs V) (places : List (ℕ × V)) (l : Line V) (fs1 : Flights V) → Next fs m places l fs1 → goes_unasked l.report.outcome ≡ true
        → Comes true l.report.outcome places × Under fs1 (placed true l.report.outcome places)
    goes_further fs m places l fs1 n on =
        let P : Outcome V → Type 0 = λ o. Comes true o places × Under fs1 (placed true o places) in
        subst P (sym n.step.told_so) (by_outcome n.step.outcome (ap goes_unasked (sym n.step.told_so) ∙ on) n.step.tells)
      where
        here : fs1 w ≡ n.next
        here = ap (λ g. g w) n.flights ∙ flight_here fs w n.next

        by_outcome : (o : Moved V) → goes_unasked (told o) ≡ true → ScanTells start end size n.states places o n.next → Comes true (told o) places × Under fs1 (placed true (told o) places)
        by_outcome moved.Running e t = (tt, inr (n.states, here ∙ t, n.among))
        by_outcome (moved.Found place key x) e t = (t.0, inr (n.states, here ∙ t.1, n.among))
        by_outcome (moved.Scanned c) e t = absurd (cc e)
        by_outcome (moved.Asks o) e t = absurd t
        by_outcome (moved.Done r) e t = absurd t
        by_outcome (moved.Refused c) e t = absurd (cc e)

    -- a step of another call leaves it in flight
    stays_under : (fs fs1 : Flights V) (places : List (ℕ × V)) → fs1 w ≡ fs w → Under fs places → Under fs1 places
    stays_under fs fs1 places e (inl u) = inl (e ∙ u.0, u.1)
    stays_under fs fs1 places e (inr u) = inr (u.0, e ∙ u.1, u.2)

    begin_apart : (fs : Flights V) (m : Pairs V) (places : List (ℕ × V)) (l : Line V) (fs1 : Flights V) (op : Point V) (o : Outcome V) → l.report.outcome ≡ o → Under fs places → BeginsOr fs m op o l fs1 → fs1 w ≡ fs w
    begin_apart fs m places l fs1 op (Refused e) q u x = ap (λ g. g w) x.same_flights
    begin_apart fs m places l fs1 op (Done d) q u x = ap (λ g. g w) (ends_stays fs m op d l fs1 x).same_flights
    begin_apart fs m places l fs1 op Running q u x = ap (λ g. g w) x.begins ∙ flight_apart fs l.step.worker w _ (λ e. out fs places u (ap fs e ∙ x.free))
    begin_apart fs m places l fs1 op (Asks o) q u x = ap (λ g. g w) x.begins ∙ flight_apart fs l.step.worker w _ (λ e. out fs places u (ap fs e ∙ x.free))
    begin_apart fs m places l fs1 op (Found a b c) q u x = ap (λ g. g w) x.begins ∙ flight_apart fs l.step.worker w _ (λ e. out fs places u (ap fs e ∙ x.free))
    begin_apart fs m places l fs1 op (Registered n) q u x = ap (λ g. g w) x.begins ∙ flight_apart fs l.step.worker w _ (λ e. out fs places u (ap fs e ∙ x.free))

    target_apart : (fs : Flights V) (m : Pairs V) (places : List (ℕ × V)) (l : Line V) (fs1 : Flights V) (t : Target V) → Under fs places → BeginMap fs m t l fs1 → fs1 w ≡ fs w
    target_apart fs m places l fs1 (target.Collector op) u x = ap (λ g. g w) x.same_flights
    target_apart fs m places l fs1 (target.Tree op) u x = begin_apart fs m places l fs1 op l.report.outcome refl u x
    target_apart fs m places l fs1 (target.Survey k) u x = ap (λ g. g w) x.stays.same_flights

    go_apart : (fs : Flights V) (m : Pairs V) (l : Line V) (fs1 : Flights V) (answer : Option (Option V)) (f : Flight V) → w ≢ l.step.worker → GoMap same fs f m answer l fs1 → fs1 w ≡ fs w
    go_apart fs m l fs1 answer Over n x = ap (λ g. g w) x.same_flights
    go_apart fs m l fs1 answer (Pending k kind v q) n x = ap (λ g. g w) x.with_next ∙ flight_apart fs l.step.worker w x.next n
    go_apart fs m l fs1 answer (Decided r) n x = ap (λ g. g w) x.with_next ∙ flight_apart fs l.step.worker w x.next n
    go_apart fs m l fs1 answer (Unbegun a b c) n x = ap (λ g. g w) x.with_next ∙ flight_apart fs l.step.worker w x.next n
    go_apart fs m l fs1 answer (Scanning a b c d e) n x = ap (λ g. g w) x.with_next ∙ flight_apart fs l.step.worker w x.next n

    not_both : (b : Bool) → (b && true) ≡ false → b ≡ false
    not_both true e = absurd (cc e)
    not_both false e = refl

    event_apart : (fs : Flights V) (m : Pairs V) (places : List (ℕ × V)) (l : Line V) (fs1 : Flights V) (event : Event V) → ((l.step.worker == w) && is_go event) ≡ false → Under fs places → EventMap same fs m event l fs1 → fs1 w ≡ fs w
    event_apart fs m places l fs1 Register g u x = ap (λ h. h w) x.same_flights
    event_apart fs m places l fs1 (Begin op) g u x = target_apart fs m places l fs1 (target op) u x
    event_apart fs m places l fs1 (Go noise) g u x =
        go_apart fs m l fs1 noise.answer (fs l.step.worker) (λ e. eqb-false l.step.worker w (not_both (l.step.worker == w) g) (sym e)) x

    -- over whatever lines up to its end a scan fills its places in order, with what a scan promises
    pub during_lines : (fs : Flights V) (m : Pairs V) (places : List (ℕ × V)) (during after : List (Line V)) (end_line : Line V) (fs' : Flights V) (count : ℕ) → Among all m → ((x : Pairs V) → Among (map (λ l. l.pairs) during) x → Among all x) → Under fs places
        → IsMapRun same fs m (during ++ end_line ∷ after) fs' → GoesOn w during → EndsScan w count end_line
        → AllCome w during places × (count ≤ length (told_to w during places)) × IsScan start end size all (take count (told_to w during places))
    during_lines fs m places [] after e fs' count am more u r on fin =
        let z = ends fs m places e r.0 count (goes_step fs m places e r.0 am u fin.goes r.1) fin.done in (tt, z.0, z.1)
    during_lines fs m places (l ∷ during) after e fs' count am more u r on fin =
        let P : Bool → Type 0 = λ b. (Comes b l.report.outcome places × AllCome w during (placed b l.report.outcome places)) × (count ≤ length (told_to w during (placed b l.report.outcome places)))
        × IsScan start end size all (take count (told_to w during (placed b l.report.outcome places))) in
        elim (cases_Bool (goes w l)) [
          | inl g ↦ (
              let z : Comes true l.report.outcome places × Under r.0 (placed true l.report.outcome places) = goes_further fs m places l r.0 (goes_step fs m places l r.0 am u g r.1) (on.0 g) in
              let y = during_lines r.0 l.pairs (placed true l.report.outcome places) during after e fs' count (more l.pairs (inl refl)) (λ x i. more x (inr i)) z.1 r.2 on.1 fin in
              subst P (sym g) ((z.0, y.0), y.1, y.2))
          | inr g ↦ (
              let y = during_lines r.0 l.pairs places during after e fs' count (more l.pairs (inl refl)) (λ x i. more x (inr i)) (stays_under fs r.0 places (event_apart fs m places l r.0 l.step.event g u r.1) u) r.2 on.1 fin in
              subst P (sym g) ((tt, y.0), y.1, y.2))
        ]

  -- its begin: it is in flight as a scan that promises what one of its range does
  pub record BegunScan (w start end size : ℕ) (all : List (Pairs V)) (m : Pairs V) (l : Line V) (fs1 : Flights V) : Type 0 where
    pub from : ℕ
    pub to : ℕ
    pub places : ℕ
    pub under : Under w from to places all fs1 []
    pub promises : (states : List (Pairs V)) (found : List (ℕ × V)) → IsScan from to places states found → IsScan start end size states found
    pub same_pairs : l.pairs ≡ m

  -- a scan that begins is in flight, by the pairs that stand then
  pub begins_at : (fs : Flights V) (m : Pairs V) (w start end size : ℕ) (all : List (Pairs V)) (l : Line V) (fs1 : Flights V) → BeginsScan w start end size l → MapStep same fs m l fs1 → BegunScan w start end size all m l fs1
  begins_at fs m w start end size all l fs1 b x =
      let r = on_range b.op start end size b.range in
      let P : Event V → Type 0 = λ e. EventMap same fs m e l fs1 in
      let T : Target V → Type 0 = λ t. BeginMap fs m t l fs1 in
      let Q : Outcome V → Type 0 = λ o. BeginsOr fs m r.point o l fs1 in
      let y = subst Q b.accepted (subst T r.on_tree (subst P b.event x)) in
      let f : Flight V = flight (begun root r.point) in
      let R : Option (ℕ × ℕ × ℕ) → Type 0 = λ o. IsOfRange o f in
      let k : IsScanOf start end size f = subst R r.range (of_range root r.point) in
      record {
        from = k.from;
        to = k.to;
        places = k.places;
        under = inl (ap (λ g. g w) y.begins ∙ ap (λ v. with_flight fs v f w) b.worker ∙ flight_here fs w f ∙ k.unbegun, refl);
        promises = k.promises;
        same_pairs = y.same_pairs;
      }

  -- each scan that begins and is done in a map's run found what a scan promises
  pub scans_hold : (fs : Flights V) (m : Pairs V) (lines : List (Line V)) (fs' : Flights V) → IsMapRun same fs m lines fs' → ScansHold lines
  scans_hold fs m lines fs' r before during after b e w start end size count is begins on ends =
      let P : List (Line V) → Type 0 = λ ls. IsMapRun same fs m ls fs' in
      let x = later fs m before (b ∷ (during ++ e ∷ after)) fs' (subst P is r) in
      let all : List (Pairs V) = map (λ l. l.pairs) (b ∷ during) in
      let y = begins_at x.0 (pairs_after m before) w start end size all b x.1.0 begins x.1.1 in
      let z = during_lines w y.from y.to y.places all x.1.0 b.pairs [] during after e fs' count (inl refl) (λ p i. inr i) y.under x.1.2 on ends in
      record { in_order = z.0; filled = z.1; scan = y.promises all (take count (told_to w during [])) z.2 }

  -- each scan that is done as it begins in a map's run found nothing, as a scan promises
  pub empty_scans_hold : (fs : Flights V) (m : Pairs V) (lines : List (Line V)) (fs' : Flights V) → IsMapRun same fs m lines fs' → EmptyScansHold lines
  empty_scans_hold fs m lines fs' r before after l op start end size count is begins range done =
      let q = on_range op start end size range in
      let P : List (Line V) → Type 0 = λ ls. IsMapRun same fs m ls fs' in
      let x = later fs m before (l ∷ after) fs' (subst P is r) in
      let Q : Event V → Type 0 = λ e. EventMap same x.0 (pairs_after m before) e l x.1.0 in
      let T : Target V → Type 0 = λ t. BeginMap x.0 (pairs_after m before) t l x.1.0 in
      let R : Outcome V → Type 0 = λ o. BeginsOr x.0 (pairs_after m before) q.point o l x.1.0 in
      let E : Option (ℕ × ℕ × ℕ) → Type 0 = λ o. EndsEmpty o count x.0 (pairs_after m before) l x.1.0 in
      let y = subst E q.range (subst R done (subst T q.on_tree (subst Q begins x.1.1))) in
      let S : Pairs V → Type 0 = λ p. IsScan {V = V} start end size (p ∷ []) [] in
      (y.none, subst S (sym y.stays.same_pairs) y.scan)
