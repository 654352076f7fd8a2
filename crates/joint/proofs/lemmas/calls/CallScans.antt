-- A whole call of a scan fills its caller's places with what a scan promises.
use Rattle.std.proofs.Common.{◌≡◌, ◌≤◌, ◌==◌, ◌&&◌, ℕ, zero, suc, arith, Bool, true, List, [], ◌∷◌, ◌++◌, refl, sym, ◌∙◌, ap, subst, inl, inr}
use Rattle.std.proofs.Math.ListN.{set}
use Rattle.std.specs.Prelude.{Option, None, Some, length, map, take, replicate, option_map}
use Rattle.std.proofs.lemmas.List.{length-take-le}
use Rattle.judge.specs.Answer.{Pairs}
use Rattle.congee.specs.protocol.Scans.{IsScan, written}
use Rattle.joint.specs.declared.steps.Done.TheVariants.{Scanned}
use Rattle.joint.specs.declared.steps.Event.{Event}
use Rattle.joint.specs.declared.steps.Event.TheVariants.{Begin}
use Rattle.joint.specs.declared.steps.Op.{Op}
use Rattle.joint.specs.declared.steps.Outcome.{Outcome}
use Rattle.joint.specs.declared.steps.Outcome.TheVariants.{Running, Asks, Found, Registered, Done, Refused}
use Rattle.joint.specs.declared.steps.Report.{Report}
use Rattle.joint.specs.declared.steps.Step.{Step}
use Rattle.joint.specs.calls.Calling.{next_step, steps_of, GoOn, last_of, last_or, put, put_all, put_away, kept_report, FillsOf, FillsPlaces}
use Rattle.joint.specs.Reports.{goes_unasked, range_of}
use Rattle.joint.specs.declared.steps.Target.{Target}
use Rattle.joint.specs.calls.Runs.{IsMapRun}
use Rattle.joint.specs.world.MapSteps.{MapStep, EventMap, BeginMap, BeginsOr, EndsEmpty, Line}
use Rattle.joint.specs.engine.Flying.{Flights}
use Rattle.joint.specs.calls.Scans.{is_go, goes, placed, told_to, Comes, AllCome, BeginsScan, GoesOn, EndsScan}
use Rattle.joint.proofs.lemmas.world.Flights.{eqb_same}
use Rattle.joint.proofs.lemmas.calls.Scans.{Among, Under, OnRange, goes_step, goes_further, during_lines, begins_at, on_range}

-- what was told for the places, and what the caller's places have, as far as both go
abbrev pub Agrees : {A : Type 0} → List A → List A → Type 0
Agrees [] ps = Unit {0}
Agrees (x ∷ xs) [] = Unit {0}
Agrees (x ∷ xs) (p ∷ ps) = (x ≡ p) × Agrees xs ps

agrees_none : {A : Type 0} (xs : List A) → Agrees xs []
agrees_none [] = tt
agrees_none (x ∷ xs) = tt

agrees_set : {V : Type 0} (xs ps : List (ℕ × V)) (i : ℕ) (p : ℕ × V) → i ≤ length ps → Agrees xs ps → Agrees (set xs i p) (written ps i p)
agrees_set [] ps i p l a = tt
agrees_set (x ∷ xs) [] zero p l a = (refl, agrees_none xs)
agrees_set (x ∷ xs) [] (suc i) p l a = absurd (omega (arith, l))
agrees_set (x ∷ xs) (y ∷ ps) zero p l a = (refl, a.1)
agrees_set (x ∷ xs) (y ∷ ps) (suc i) p l a = (a.0, agrees_set xs ps i p (omega (arith, l)) a.1)

agrees_take : {A : Type 0} (n : ℕ) (xs ps : List A) → n ≤ length xs → n ≤ length ps → Agrees xs ps → take n xs ≡ take n ps
agrees_take zero xs ps l k a = refl
agrees_take (suc n) [] ps l k a = absurd (omega (arith, l))
agrees_take (suc n) (x ∷ xs) [] l k a = absurd (omega (arith, k))
agrees_take (suc n) (x ∷ xs) (p ∷ ps) l k a = let e : x ≡ p = a.0 in let r = agrees_take n xs ps (omega (arith, l)) (omega (arith, k)) a.1 in cc (e, r)

module _ {V : Type 0} where
  -- the lines after a begin are steps of the worker's call
  abbrev AllGo : ℕ → List (Line V) → Type 0
  AllGo w [] = Unit {0}
  AllGo w (l ∷ ls) = (goes w l ≡ true) × AllGo w ls

  all_go : (w : ℕ) (ls : List (Line V)) (n : ℕ) → map (λ (l : Line V). l.step) ls ≡ replicate n (next_step w) → AllGo w ls
  all_go w [] n e = tt
  all_go w (l ∷ ls) zero e = absurd (cc e)
  all_go w (l ∷ ls) (suc n) e =
      let is : next_step w ≡ l.step = let q : l.step ≡ next_step w = cc in sym q in
      let more : map (λ (l : Line V). l.step) ls ≡ replicate n (next_step w) = cc in
      let P : Step V → Type 0 = λ s. ((s.worker == w) && is_go s.event) ≡ true in
      let here : P (next_step w) = ap (λ b. b && true) (eqb_same w) in
      (subst P is here, all_go w ls n more)

  -- the last of several lines
  pub record Split (l : Line V) (ls : List (Line V)) : Type 0 where
    pub init : List (Line V)
    pub last : Line V
    pub is : l ∷ ls ≡ init ++ last ∷ []

  split : (l : Line V) (ls : List (Line V)) → Split l ls
  split l [] = record { init = []; last = l; is = refl }
  split l (k ∷ ls) = let r = split k ls in record { init = l ∷ r.init; last = r.last; is = ap (λ xs. l ∷ xs) r.is }

  abbrev told : List (Line V) → List (Report V)
  told ls = map (λ (l : Line V). l.report) ls

  go_on_init : (w : ℕ) (q : Report V) (init : List (Line V)) (e : Line V) → GoOn (q ∷ told (init ++ e ∷ [])) → (goes_unasked q.outcome ≡ true) × GoesOn w init
  go_on_init w q [] e g = (g.0, tt)
  go_on_init w q (l ∷ init) e g = let r = go_on_init w l.report init e g.1 in (g.0, ((λ x. r.0), r.1))

  last_init : (q : Report V) (init : List (Line V)) (e : Line V) → last_or q (told (init ++ e ∷ [])) ≡ e.report
  last_init q [] e = refl
  last_init q (l ∷ init) e = last_init l.report init e

  go_init : (w : ℕ) (init : List (Line V)) (e : Line V) → AllGo w (init ++ e ∷ []) → AllGo w init × (goes w e ≡ true)
  go_init w [] e g = (tt, g.0)
  go_init w (l ∷ init) e g = let r = go_init w init e g.1 in ((g.0, r.0), r.1)

  put_init : (init : List (Line V)) (e : Line V) (places : List (ℕ × V)) → put_all (told (init ++ e ∷ [])) places ≡ put e.report.outcome (put_all (told init) places)
  put_init [] e places = refl
  put_init (l ∷ init) e places = put_init init e (put l.report.outcome places)

  agrees_put : (o : Outcome V) (xs ps : List (ℕ × V)) → Comes true o ps → Agrees xs ps → Agrees (put o xs) (placed true o ps)
  agrees_put (Found place key value) xs ps c a = agrees_set xs ps place (key, value) c a
  agrees_put Running xs ps c a = a
  agrees_put (Asks x) xs ps c a = a
  agrees_put (Registered n) xs ps c a = a
  agrees_put (Done d) xs ps c a = a
  agrees_put (Refused e) xs ps c a = a

  agrees_lines : (w : ℕ) (ls : List (Line V)) (xs ps : List (ℕ × V)) → AllGo w ls → AllCome w ls ps → Agrees xs ps → Agrees (put_all (told ls) xs) (told_to w ls ps)
  agrees_lines w [] xs ps g c a = a
  agrees_lines w (l ∷ ls) xs ps g c a =
      let P : Bool → Type 0 = λ b. Comes b l.report.outcome ps in
      let Q : Bool → Type 0 = λ b. Agrees (put l.report.outcome xs) (placed b l.report.outcome ps) in
      agrees_lines w ls (put l.report.outcome xs) (placed (goes w l) l.report.outcome ps) g.1 c.1 (subst Q (sym g.0) (agrees_put l.report.outcome xs ps (subst P g.0 c.0) a))

  away_done : (o : Outcome V) (count : ℕ) → put_away o ≡ Done (Scanned count) → o ≡ Done (Scanned count)
  away_done (Found a b c) count e = absurd (cc e)
  away_done Running count e = e
  away_done (Asks x) count e = e
  away_done (Registered n) count e = e
  away_done (Done d) count e = e
  away_done (Refused x) count e = e

  put_done : (o : Outcome V) (count : ℕ) (xs : List (ℕ × V)) → o ≡ Done (Scanned count) → put o xs ≡ xs
  put_done o count xs e = ap (λ x. put x xs) e

  put_running : (o : Outcome V) (xs : List (ℕ × V)) → o ≡ Running → put o xs ≡ xs
  put_running o xs e = ap (λ x. put x xs) e

module _ {V : Type 0} (same : V → V → Bool) (w from to places : ℕ) (m : Pairs V) where
  -- the pairs stay what they are while the scan alone takes steps
  alone : (fs : Flights V) (n : Pairs V) (ps : List (ℕ × V)) (ls : List (Line V)) (more : List (Line V)) (fs' : Flights V) → n ≡ m → Under same w from to places (m ∷ []) fs ps → AllGo w ls → GoesOn w ls → IsMapRun same fs n (ls ++ more) fs'
      → (x : Pairs V) → Among (map (λ (l : Line V). l.pairs) ls) x → m ≡ x
  alone fs n ps [] more fs' e u g on r x a = absurd a
  alone fs n ps (l ∷ ls) more fs' e u g on r x a =
      let step = goes_step same w from to places (m ∷ []) fs n ps l r.0 (inl (sym e)) u g.0 r.1 in
      let same_pairs : l.pairs ≡ m = step.step.same_pairs ∙ e in
      let z = goes_further same w from to places (m ∷ []) fs n ps l r.0 step (on.0 g.0) in
      elim a [
        | inl q ↦ sym same_pairs ∙ q
        | inr q ↦ alone r.0 l.pairs (placed true l.report.outcome ps) ls more fs' same_pairs z.1 g.1 on.1 r.2 x q
      ]

module _ {V : Type 0} (same : V → V → Bool) (w start end size : ℕ) (m : Pairs V) where
  -- the whole call
  filled : (fs : Flights V) (b : Line V) (init : List (Line V)) (e : Line V) (fs' : Flights V) (places : List (ℕ × V)) (count : ℕ) → BeginsScan w start end size b → AllGo w init → GoesOn w init → EndsScan w count e → IsMapRun same fs m (b ∷ (init ++ e ∷ [])) fs'
      → size ≤ length (put_all (told init) places) → (count ≤ length (put_all (told init) places)) × IsScan {V = V} start end size (m ∷ []) (take count (put_all (told init) places))
  filled fs b init e fs' places count begins go on ends r room =
      let y = begins_at same fs m w start end size (m ∷ []) b r.0 begins r.1 in
      let more = alone same w y.from y.to y.places m r.0 b.pairs [] init (e ∷ []) fs' y.same_pairs y.under go on r.2 in
      let z = during_lines same w y.from y.to y.places (m ∷ []) r.0 b.pairs [] init [] e fs' count (inl (sym y.same_pairs)) (λ x a. inl (more x a)) y.under r.2 on ends in
      let scan : IsScan {V = V} start end size (m ∷ []) (take count (told_to w init [])) = y.promises (m ∷ []) (take count (told_to w init [])) z.2 in
      let few : length (take count (told_to w init [])) ≤ size = scan.few in
      let len : length (take count (told_to w init [])) ≡ count = length-take-le count (told_to w init []) z.1 in
      let fits : count ≤ length (put_all (told init) places) = omega (arith, few, len, room) in
      let eq : take count (put_all (told init) places) ≡ take count (told_to w init []) = agrees_take count (put_all (told init) places) (told_to w init []) fits z.1 (agrees_lines w init places [] go z.0 (agrees_none places)) in
      let P : List (ℕ × V) → Type 0 = λ xs. IsScan {V = V} start end size (m ∷ []) xs in
      (fits, subst P (sym eq) scan)

module _ {V : Type 0} (same : V → V → Bool) (w start end size : ℕ) (m : Pairs V) (op : Op V) (range : range_of op ≡ Some (start, end, size)) where
  ranged : OnRange op start end size
  ranged = on_range op start end size range

  -- a begin that goes on, and one that ends
  accepted : (fs : Flights V) (l : Line V) (fs1 : Flights V) (o : Outcome V) → l.report.outcome ≡ o → goes_unasked o ≡ true → BeginsOr fs m ranged.point o l fs1 → o ≡ Running
  accepted fs l fs1 Running q g x = refl
  accepted fs l fs1 (Found a b c) q g x = absurd (let z : Found a b c ≡ Running = sym q ∙ x.accepted in cc)
  accepted fs l fs1 (Asks o) q g x = absurd (cc g)
  accepted fs l fs1 (Registered n) q g x = absurd (cc g)
  accepted fs l fs1 (Done d) q g x = absurd (cc g)
  accepted fs l fs1 (Refused e) q g x = absurd (cc g)

  begin_event : (fs : Flights V) (l : Line V) (fs1 : Flights V) → l.step.event ≡ Begin op → MapStep same fs m l fs1 → BeginsOr fs m ranged.point l.report.outcome l fs1
  begin_event fs l fs1 e x =
      let P : Event V → Type 0 = λ y. EventMap same fs m y l fs1 in
      let T : Target V → Type 0 = λ t. BeginMap fs m t l fs1 in
      subst T ranged.on_tree (subst P e x)

  by_lines : (fs : Flights V) (lines : List (Line V)) (fs' : Flights V) (reports : List (Report V)) (places : List (ℕ × V)) (count : ℕ) (raw : Report V) → IsMapRun same fs m lines fs' → map (λ (l : Line V). l.step) lines ≡ steps_of w op (length reports) → told lines ≡ reports
      → GoOn reports → last_of reports ≡ Some raw → raw.outcome ≡ Done (Scanned count) → size ≤ length (put_all reports places) → (count ≤ length (put_all reports places)) × IsScan {V = V} start end size (m ∷ []) (take count (put_all reports places))
  by_lines fs [] fs' reports places count raw r steps reps on last done room = absurd (let P : List (Report V) → Type 0 = λ xs. last_of xs ≡ Some raw in let z : None ≡ Some raw = subst P (sym reps) last in cc)
  by_lines fs (b ∷ []) fs' reports places count raw r steps reps on last done room =
      let P : List (Report V) → Type 0 = λ xs. (map (λ (l : Line V). l.step) (b ∷ []) ≡ steps_of w op (length xs)) → last_of xs ≡ Some raw → (count ≤ length (put_all xs places)) × IsScan {V = V} start end size (m ∷ []) (take count (put_all xs places)) in
      subst P reps (λ s l.
      let is : b.report ≡ raw = cc in
      let step : b.step ≡ record { worker = w; event = Begin op } = cc in
      let ends : b.report.outcome ≡ Done (Scanned count) = ap (λ y. y.outcome) is ∙ done in
      let Q : Outcome V → Type 0 = λ o. BeginsOr fs m ranged.point o b r.0 in
      let E : Option (ℕ × ℕ × ℕ) → Type 0 = λ o. EndsEmpty o count fs m b r.0 in
      let x = subst E ranged.range (subst Q ends (begin_event fs b r.0 (ap (λ y. y.event) step) r.1)) in
      let R : ℕ → Type 0 = λ n. (n ≤ length (put b.report.outcome places)) × IsScan {V = V} start end size (m ∷ []) (take n (put b.report.outcome places)) in
      subst R (sym x.none) (omega arith, x.scan)) steps last
  by_lines fs (b ∷ (k ∷ ls)) fs' reports places count raw r steps reps on last done room =
      let sp = split k ls in
      let P : List (Report V) → Type 0 = λ xs. (map (λ (l : Line V). l.step) (b ∷ (k ∷ ls)) ≡ steps_of w op (length xs)) → GoOn xs → last_of xs ≡ Some raw → size ≤ length (put_all xs places)
      → (count ≤ length (put_all xs places)) × IsScan {V = V} start end size (m ∷ []) (take count (put_all xs places)) in
      let Q : List (Line V) → Type 0 = λ ys. IsMapRun same fs m (b ∷ ys) fs' → (n : ℕ) → map (λ (l : Line V). l.step) ys ≡ replicate n (next_step w) → b.step ≡ record { worker = w; event = Begin op } → GoOn (b.report ∷ told ys) → last_or b.report (told ys) ≡ raw
      → size ≤ length (put_all (b.report ∷ told ys) places) → (count ≤ length (put_all (b.report ∷ told ys) places)) × IsScan {V = V} start end size (m ∷ []) (take count (put_all (b.report ∷ told ys) places)) in
      subst P reps (λ s g l rm.
      let head : b.step ≡ record { worker = w; event = Begin op } = cc in
      let tail : map (λ (l : Line V). l.step) (k ∷ ls) ≡ replicate (length (told (k ∷ ls))) (next_step w) = cc in
      let la : last_or b.report (told (k ∷ ls)) ≡ raw = cc in
      (subst Q (sym sp.is) (ended b sp.init sp.last)) r (length (told (k ∷ ls))) tail head g la rm) steps on last room
    where
      ended : (b : Line V) (init : List (Line V)) (e : Line V) → IsMapRun same fs m (b ∷ (init ++ e ∷ [])) fs' → (n : ℕ) → map (λ (l : Line V). l.step) (init ++ e ∷ []) ≡ replicate n (next_step w) → b.step ≡ record { worker = w; event = Begin op }
          → GoOn (b.report ∷ told (init ++ e ∷ [])) → last_or b.report (told (init ++ e ∷ [])) ≡ raw → size ≤ length (put_all (b.report ∷ told (init ++ e ∷ [])) places)
          → (count ≤ length (put_all (b.report ∷ told (init ++ e ∷ [])) places)) × IsScan {V = V} start end size (m ∷ []) (take count (put_all (b.report ∷ told (init ++ e ∷ [])) places))
      ended b init e r n steps head on last room =
          let g = go_init w init e (all_go w (init ++ e ∷ []) n steps) in
          let o = go_on_init w b.report init e on in
          let run : b.report.outcome ≡ Running = accepted fs b r.0 b.report.outcome refl o.0 (begin_event fs b r.0 (ap (λ y. y.event) head) r.1) in
          let fin : e.report.outcome ≡ Done (Scanned count) = ap (λ y. y.outcome) (sym (last_init b.report init e) ∙ last) ∙ done in
          let eq : put_all (b.report ∷ told (init ++ e ∷ [])) places ≡ put_all (told init) places =
          ap (put_all (told (init ++ e ∷ []))) (put_running b.report.outcome places run) ∙ put_init init e places ∙ put_done e.report.outcome count (put_all (told init) places) fin in
          let P : List (ℕ × V) → Type 0 = λ xs. size ≤ length xs in
          let Q : List (ℕ × V) → Type 0 = λ xs. (count ≤ length xs) × IsScan {V = V} start end size (m ∷ []) (take count xs) in
          subst Q (sym eq) (filled same w start end size m fs b init e fs' places count (record { op = op; range = range; worker = ap (λ y. y.worker) head; event = ap (λ y. y.event) head; accepted = run }) g.0 o.1 (record { goes = g.1; done = fin }) r (subst P eq room))

module _ {V : Type 0} (same : V → V → Bool) (w : ℕ) (fs : Flights V) (m : Pairs V) where
  kept_last : (reports : List (Report V)) (r : Report V) → option_map kept_report (last_of reports) ≡ Some r → (raw : Report V) × (last_of reports ≡ Some raw) × (kept_report raw ≡ r)
  kept_last reports r e = by_last (last_of reports) refl e
    where
      by_last : (o : Option (Report V)) → last_of reports ≡ o → option_map kept_report o ≡ Some r → (raw : Report V) × (last_of reports ≡ Some raw) × (kept_report raw ≡ r)
      by_last None q e = absurd (cc e)
      by_last (Some raw) q e = (raw, q, cc)

  -- a whole call of a scan that is done has filled the first of the caller's places with what a scan promises
  pub fills : (op : Op V) (reports : List (Report V)) (places : List (ℕ × V)) (result : Option (Report V)) (places' : List (ℕ × V)) (steps : List (Step V)) → steps ≡ steps_of w op (length reports) → (x : (lines : List (Line V)) × (fs' : Flights V) × (map (λ (l : Line V). l.step) lines ≡ steps) × (told lines ≡ reports) × IsMapRun same fs m lines fs')
      → GoOn reports → option_map kept_report (last_of reports) ≡ result → places' ≡ put_all reports places → FillsPlaces m op result places'
  fills op reports places result places' steps is x on last found = by_range (range_of op) refl result last
    where
      by_range : (o : Option (ℕ × ℕ × ℕ)) → range_of op ≡ o → (result : Option (Report V)) → option_map kept_report (last_of reports) ≡ result → FillsOf o m result places'
      by_range None range result last = tt
      by_range (Some (start, end, size)) range None last = tt
      by_range (Some (start, end, size)) range (Some r) last =
          λ count done room.
          let k = kept_last reports r last in
          let ends : k.0.outcome ≡ Done (Scanned count) = away_done k.0.outcome count (ap (λ y. y.outcome) k.2 ∙ done) in
          let P : List (ℕ × V) → Type 0 = λ xs. size ≤ length xs in
          let Q : List (ℕ × V) → Type 0 = λ xs. (count ≤ length xs) × IsScan {V = V} start end size (m ∷ []) (take count xs) in
          subst Q (sym found) (by_lines same w start end size m op range fs x.0 x.1 reports places count k.0 x.4 (x.2 ∙ is) x.3 on k.1 ends (subst P found room))
