-- A call that is taken step by step is a whole call.
use Rattle.std.proofs.Common.{◌≡◌, ◌<◌, ℕ, zero, suc, ◌+◌, arith, Bool, true, false, List, [], ◌∷◌, ◌++◌, length, refl, sym, ◌∙◌, ap, subst}
use Rattle.std.specs.Prelude.{None, Some, option_map, replicate, slice_get}
use Rattle.std.proofs.lemmas.List.{length-append}
use Rattle.joint.specs.declared.steps.Event.TheVariants.{Begin}
use Rattle.joint.specs.declared.steps.Op.{Op}
use Rattle.joint.specs.declared.steps.Report.{Report}
use Rattle.joint.specs.declared.steps.Step.{Step}
use Rattle.joint.specs.declared.steps.Outcome.{Outcome}
use Rattle.joint.specs.declared.steps.Outcome.TheVariants.{Running, Asks, Found, Registered, Done, Refused}
use Rattle.joint.specs.calls.Calling.{next_step, steps_of, GoOn, last_of, put, put_all, put_away, kept_report, IsCalled}
use Rattle.joint.specs.Reports.{goes_unasked, is_in_flight}
use Rattle.joint.specs.calls.Runs.{IsRun}
use Rattle.joint.specs.world.World.{Holds, IsStep}
use Rattle.joint.specs.engine.Engine.{World, is_busy, misuse}
use Rattle.joint.proofs.lemmas.engine.Reported.{may_go}
use Rattle.joint.proofs.lemmas.calls.Runs.{runs_join}

replicate_more : {A : Type 0} (n : ℕ) (x : A) → replicate n x ++ x ∷ [] ≡ replicate (suc n) x
replicate_more zero x = refl
replicate_more (suc n) x = ap (λ xs. x ∷ xs) (replicate_more n x)

module _ {V : Type 0} where
  last_more : (q : Report V) (qs : List (Report V)) (r : Report V) → last_of ((q ∷ qs) ++ r ∷ []) ≡ Some r
  last_more q [] r = refl
  last_more q (x ∷ qs) r = last_more x qs r

  go_more : (qs : List (Report V)) (last r : Report V) → last_of qs ≡ Some last → goes_unasked last.outcome ≡ true → GoOn qs → GoOn (qs ++ r ∷ [])
  go_more [] last r e g x = tt
  go_more (q ∷ []) last r e g x = (let is : q ≡ last = cc in let P : Report V → Type 0 = λ y. goes_unasked y.outcome ≡ true in subst P (sym is) g, tt)
  go_more (q ∷ (p ∷ qs)) last r e g x = (x.0, go_more (p ∷ qs) last r e g x.1)

  put_more : (qs : List (Report V)) (r : Report V) (places : List (ℕ × V)) → put_all (qs ++ r ∷ []) places ≡ put r.outcome (put_all qs places)
  put_more [] r places = refl
  put_more (q ∷ qs) r places = put_more qs r (put q.outcome places)

  -- what is put away goes on where it did
  pub away_goes : (o : Outcome V) → goes_unasked (put_away o) ≡ goes_unasked o
  away_goes Running = refl
  away_goes (Asks x) = refl
  away_goes (Found a b c) = refl
  away_goes (Registered n) = refl
  away_goes (Done d) = refl
  away_goes (Refused e) = refl

  away_flight : (o : Outcome V) → is_in_flight (put_away o) ≡ is_in_flight o
  away_flight Running = refl
  away_flight (Asks x) = refl
  away_flight (Found a b c) = refl
  away_flight (Registered n) = refl
  away_flight (Done d) = refl
  away_flight (Refused e) = refl

  steps_more : (who : ℕ) (op : Op V) (qs : List (Report V)) (last r : Report V) → last_of qs ≡ Some last → steps_of who op (length qs) ++ next_step who ∷ [] ≡ steps_of who op (length (qs ++ r ∷ []))
  steps_more who op [] last r e = absurd cc
  steps_more who op (q ∷ qs) last r e =
      let n : length (qs ++ r ∷ []) ≡ suc (length qs) = let l = length-append qs (r ∷ []) in omega (arith, l) in
      ap (λ xs. record { worker = who; event = Begin op } ∷ xs) (replicate_more (length qs) (next_step who) ∙ ap (λ k. replicate k (next_step who)) (sym n))

-- a call that goes on is in flight
pub going : {V : Type 0} (o : Outcome V) → goes_unasked o ≡ true → is_in_flight o ≡ true
going Running e = refl
going (Asks found) e = refl
going (Found place key value) e = refl
going (Registered n) e = absurd (cc e)
going (Done done) e = absurd (cc e)
going (Refused refusal) e = absurd (cc e)

module _ {V : Type 0} (same : V → V → Bool) (always : Bool) where
  -- how far a call has come, with so many steps left
  pub record Calling (s : World V) (who : ℕ) (op : Op V) (most left : ℕ) (places : List (ℕ × V)) (report : Report V) (places' : List (ℕ × V)) (s' : World V) : Type 0 where
    pub reports : List (Report V)
    pub run : IsRun same always s (steps_of who op (length reports)) reports s'
    pub count : length reports + left ≡ most
    pub goes : GoOn reports
    pub raw : Report V
    pub last : last_of reports ≡ Some raw
    pub kept : report ≡ kept_report raw
    pub found : places' ≡ put_all reports places
    pub holds : Holds same always s'
    pub flight : misuse s who (Begin op) ≡ None → is_busy (slice_get s'.calls who) ≡ is_in_flight report.outcome

  one : (s s' : World V) (step : Step V) (r : Report V) → IsStep same always s step r s' → IsRun same always s (step ∷ []) (r ∷ []) s'
  one s s' step r x = record { taken = record { step = step; report = r; after = s' } ∷ []; each = (x, tt); steps_are = refl; reports_are = refl; last = refl }

  -- once its begin is taken a call has come one step
  pub calling_first : (s s' : World V) (who : ℕ) (op : Op V) (most left : ℕ) (places places' : List (ℕ × V)) (r r' : Report V) → IsStep same always s (record { worker = who; event = Begin op }) r s' → left + 1 ≡ most → r' ≡ kept_report r → places' ≡ put r.outcome places
      → Calling s who op most left places r' places' s'
  calling_first s s' who op most left places places' r r' x n k f = record {
    reports = r ∷ [];
    run = one s s' _ r x;
    count = omega (arith, n);
    goes = tt;
    raw = r;
    last = refl;
    kept = k;
    found = f;
    holds = x.holds;
    flight = λ m. x.flight tt m ∙ sym (away_flight r.outcome) ∙ sym (ap (λ y. is_in_flight y.outcome) k);
  }

  -- a call that goes on comes one step further with the next one
  pub calling_more : (s s1 s2 : World V) (who : ℕ) (op : Op V) (most left left' : ℕ) (places places1 places2 : List (ℕ × V)) (q r r' : Report V) → Calling s who op most left places q places1 s1 → goes_unasked q.outcome ≡ true → IsStep same always s1 (next_step who) r s2
      → left ≡ left' + 1 → r' ≡ kept_report r → places2 ≡ put r.outcome places1 → Calling s who op most left' places r' places2 s2
  calling_more s s1 s2 who op most left left' places places1 places2 q r r' c g x n k f =
      let P : List (Step V) → Type 0 = λ y. IsRun same always s y (c.reports ++ r ∷ []) s2 in
      let on : goes_unasked c.raw.outcome ≡ true = sym (away_goes c.raw.outcome) ∙ sym (ap (λ y. goes_unasked y.outcome) c.kept) ∙ g in
      record {
        reports = c.reports ++ r ∷ [];
        run = subst P (steps_more who op c.reports c.raw r c.last) (runs_join same always s s1 s2 (steps_of who op (length c.reports)) (next_step who ∷ []) c.reports (r ∷ []) c.run (one s1 s2 (next_step who) r x));
        count = (let l : length (c.reports ++ r ∷ []) ≡ length c.reports + 1 = length-append c.reports (r ∷ []) in let k : length c.reports + left ≡ most = c.count in omega (arith, l, k, n));
        goes = go_more c.reports c.raw r c.last on c.goes;
        raw = r;
        last = last_snoc c.reports c.raw r c.last;
        kept = k;
        found = f ∙ ap (put r.outcome) c.found ∙ sym (put_more c.reports r places);
        holds = x.holds;
        flight = λ m. x.flight tt (may_go same always s1 who (c.holds.0, c.holds.1) (record { fail = false; seen = None; answer = None }) (c.flight m ∙ going q.outcome g)) ∙ sym (away_flight r.outcome) ∙ sym (ap (λ y. is_in_flight y.outcome) k);
      } where
        last_snoc : (qs : List (Report V)) (last x : Report V) → last_of qs ≡ Some last → last_of (qs ++ x ∷ []) ≡ Some x
        last_snoc [] last x e = refl
        last_snoc (p ∷ qs) last x e = last_more p qs x

  -- and that there is a next one
  pub record Going (s : World V) (who : ℕ) (op : Op V) (most left : ℕ) (places : List (ℕ × V)) (places' : List (ℕ × V)) (s' : World V) : Type 0 where
    pub report : Report V
    pub calling : Calling s who op most left places report places' s'
    pub goes : goes_unasked report.outcome ≡ true
    pub more : 0 < left

  -- a call for which no steps are given is a whole call, with no report and the state as it was
  pub calling_none : (s : World V) (who : ℕ) (op : Op V) (most : ℕ) (places : List (ℕ × V)) → most ≡ 0 → IsCalled same always s who op most places None places s
  calling_none s who op most places e = record {
    reports = [];
    run = record { taken = []; each = tt; steps_are = refl; reports_are = refl; last = refl };
    bounded = omega arith;
    goes = tt;
    last = refl;
    found = refl;
    stops = λ r is l. absurd cc;
    begins = λ l. absurd (omega (arith, e, l));
    flight = λ m r is. absurd cc;
  }

  -- a call that goes on no further, or has no step left, is a whole call with its last report
  pub calling_end : (s : World V) (who : ℕ) (op : Op V) (most left : ℕ) (places : List (ℕ × V)) (report : Report V) (places' : List (ℕ × V)) (s' : World V) → Calling s who op most left places report places' s' → (0 < left → goes_unasked report.outcome ≡ false)
      → IsCalled same always s who op most places (Some report) places' s'
  calling_end s who op most left places report places' s' c stop = record {
    reports = c.reports;
    run = c.run;
    bounded = (let k : length c.reports + left ≡ most = c.count in omega (arith, k));
    goes = c.goes;
    last = ap (option_map kept_report) c.last ∙ ap Some (sym c.kept);
    found = c.found;
    stops = λ r is l.
        let k : length c.reports + left ≡ most = c.count in
        let q : report ≡ r = let z : Some report ≡ Some r = is in cc in
        let P : Report V → Type 0 = λ y. goes_unasked y.outcome ≡ false in
        subst P q (stop (omega (arith, k, l)));
    begins = λ l. refl;
    flight = λ m r is. c.flight m ∙ ap (λ y. is_in_flight y.outcome) (let z : Some report ≡ Some r = is in let q : report ≡ r = cc in q);
  }
