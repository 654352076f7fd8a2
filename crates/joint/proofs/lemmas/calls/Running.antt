-- Steps taken one by one are a run, and a run is one of a map.
use Rattle.std.proofs.Common.{◌≡◌, ℕ, ◌+◌, ◌<◌, ◌≤◌, arith, Bool, true, List, [], ◌∷◌, ◌++◌, length, take, Result, Ok, Err, OnErr, is_err, refl, sym, ◌∙◌, ap, subst}
use Rattle.std.specs.Prelude.{map}
use Rattle.std.specs.FinMap.{empty}
use Rattle.std.proofs.lemmas.List.{append_assoc, length-append}
use Rattle.std.proofs.Math.Seq.{take-append_seam}
use Rattle.judge.specs.Answer.{Pairs}
use Rattle.congee.specs.Keys.{IsMapOf}
use Rattle.joint.specs.declared.steps.Report.{Report}
use Rattle.joint.specs.declared.steps.Step.{Step}
use Rattle.joint.specs.nodes.Nodes.{nodes}
use Rattle.joint.specs.calls.Runs.{Taken, IsRun, AreLines, PlaysMap, RunsJournal, RunsMap, pairs_after}
use Rattle.joint.specs.world.MapSteps.{Line}
use Rattle.joint.specs.engine.Engine.{IsFresh, World}
use Rattle.joint.specs.engine.Flying.{Flights, AreInFlight, no_flights}
use Rattle.joint.specs.world.World.{Holds, IsStep}
use Rattle.joint.proofs.lemmas.calls.Runs.{runs_join, runs_map, runs_journal, entries_legal, standing_empty, fresh_flights}

-- a list that got no memory for one more is full
pub none_more : {A E : Type 0} (r : Result A E) (failed : Bool) (len len1 len2 places places1 places2 : ℕ) → failed ≡ is_err r → failed ≡ true → OnErr r (places < len + 1) → OnErr r (places1 ≡ places) → len1 ≡ len → len2 ≡ len1 → places2 ≡ places1
    → places2 ≤ len2
none_more (Ok x) failed len len1 len2 places places1 places2 is so full kept l l' p = absurd (cc (is, so))
none_more (Err e) failed len len1 len2 places places1 places2 is so full kept l l' p =
    let f : places < len + 1 = full in
    let k : places1 ≡ places = kept in
    omega (arith, f, k, l, l', p)

module _ {V : Type 0} (same : V → V → Bool) (always : Bool) where
  -- how far the steps have come: those taken and those left
  pub record Progress (s : World V) (all rest : List (Step V)) (done : ℕ) (reports : List (Report V)) (s' : World V) : Type 0 where
    pub taken : List (Step V)
    pub split : all ≡ taken ++ rest
    pub count : length taken ≡ done
    pub run : IsRun same always s taken reports s'

  -- before the first step none is taken, and all are left
  pub progress_none : (s : World V) (all rest : List (Step V)) (done : ℕ) (reports : List (Report V)) → rest ≡ all → done ≡ 0 → reports ≡ [] → Progress s all rest done reports s
  progress_none s all rest done reports e n q = record {
    taken = [];
    split = sym e;
    count = sym n;
    run = (let P : List (Report V) → Type 0 = λ x. IsRun same always s [] x s in subst P (sym q) (record { taken = []; each = tt; steps_are = refl; reports_are = refl; last = refl }));
  }

  -- a step that is taken is one more of those taken
  pub progress_more : (s : World V) (all rest rest' : List (Step V)) (done done1 done' : ℕ) (reports reports1 reports' : List (Report V)) (s1 s2 : World V) (step : Step V) (report : Report V)
      → Progress s all rest done reports s1 → rest ≡ step ∷ rest' → done1 ≡ done → done' ≡ done1 + 1 → reports1 ≡ reports → reports' ≡ reports1 ++ report ∷ [] → IsStep same always s1 step report s2 → Progress s all rest' done' reports' s2
  progress_more s all rest rest' done done1 done' reports reports1 reports' s1 s2 step report p e n1 n q1 q x =
      let one : IsRun same always s1 (step ∷ []) (report ∷ []) s2 = record {
        taken = record { step = step; report = report; after = s2 } ∷ [];
        each = (x, tt);
        steps_are = refl;
        reports_are = refl;
        last = refl;
      } in
      let P : List (Report V) → Type 0 = λ y. IsRun same always s (p.taken ++ step ∷ []) y s2 in
      record {
        taken = p.taken ++ step ∷ [];
        split = p.split ∙ (ap (λ y. p.taken ++ y) e ∙ sym (append_assoc p.taken (step ∷ []) rest'));
        count = (let l : length (p.taken ++ step ∷ []) ≡ length p.taken + 1 = length-append p.taken (step ∷ []) in let c : length p.taken ≡ done = p.count in omega (arith, l, c, n1, n));
        run = subst P (sym (q ∙ ap (λ y. y ++ report ∷ []) q1)) (runs_join same always s s1 s2 p.taken (step ∷ []) reports (report ∷ []) p.run one);
      }

  -- once none is left, all were taken
  pub progress_all : (s : World V) (all rest : List (Step V)) (done done' : ℕ) (reports : List (Report V)) (s' : World V) → Progress s all rest done reports s' → length rest ≡ 0 → done' ≡ done → done' < length all → ⊥
  progress_all s all rest done done' reports s' p none is fewer =
      let split : length all ≡ length p.taken + length rest = ap length p.split ∙ length-append p.taken rest in
      let count : length p.taken ≡ done = p.count in
      omega (arith, none, split, count, is, fewer)

  -- the steps that were taken up to a stop are a run
  pub progress_end : (s : World V) (all rest : List (Step V)) (done done' : ℕ) (reports reports' : List (Report V)) (s' : World V) → Progress s all rest done reports s' → done' ≡ done → reports' ≡ reports → IsRun same always s (take done' all) reports' s'
  progress_end s all rest done done' reports reports' s' p n q =
      let e : take done' all ≡ p.taken = ap (λ x. take x all) (n ∙ sym p.count) ∙ (ap (take (length p.taken)) p.split ∙ take-append_seam p.taken rest) in
      let P : List (Step V) → Type 0 = λ x. IsRun same always s x reports' s' in
      let Q : List (Report V) → Type 0 = λ x. IsRun same always s p.taken x s' in
      subst P (sym e) (subst Q (sym q) p.run)

  -- the lines of steps have their questions and reports
  lines_steps : (ts : List (Taken V)) (ls : List (Line V)) → AreLines ts ls → map (λ (l : Line V). l.step) ls ≡ map (λ (t : Taken V). t.step) ts
  lines_steps [] [] x = refl
  lines_steps [] (l ∷ ls) x = absurd x
  lines_steps (t ∷ ts) [] x = absurd x
  lines_steps (t ∷ ts) (l ∷ ls) x = let a : l.step ≡ t.step = x.0.step in let b = lines_steps ts ls x.1 in cc (a, b)

  lines_reports : (ts : List (Taken V)) (ls : List (Line V)) → AreLines ts ls → map (λ (l : Line V). l.report) ls ≡ map (λ (t : Taken V). t.report) ts
  lines_reports [] [] x = refl
  lines_reports [] (l ∷ ls) x = absurd x
  lines_reports (t ∷ ts) [] x = absurd x
  lines_reports (t ∷ ts) (l ∷ ls) x = let a : l.report ≡ t.report = x.0.report in let b = lines_reports ts ls x.1 in cc (a, b)

  -- a run plays on the map, from the pairs that stand and the calls in flight
  pub run_map : (s : World V) (steps : List (Step V)) (reports : List (Report V)) (s' : World V) (fs : Flights V) (m : Pairs V) → Holds same always s → IsRun same always s steps reports s' → IsMapOf (nodes s.forest) m → AreInFlight s fs
      → RunsMap same fs m steps reports s'
  run_map s steps reports s' fs m h r st fl =
      let p : PlaysMap same fs m s r.taken = runs_map same always s r.taken fs m h r.each st fl in
      let P : World V → Type 0 = λ x. IsMapOf (nodes x.forest) (pairs_after m p.lines) in
      let Q : World V → Type 0 = λ x. AreInFlight x p.flights in
      record {
        lines = p.lines;
        flights = p.flights;
        steps_are = lines_steps r.taken p.lines p.are_lines ∙ r.steps_are;
        reports_are = lines_reports r.taken p.lines p.are_lines ∙ r.reports_are;
        run = p.run;
        stand = subst P r.last p.stand;
        in_flight = subst Q r.last p.in_flight;
        legal = entries_legal same always fs m p.lines p.flights p.run;
      }

  -- a run from a root alone plays on the map from the empty one
  pub run_fresh : (s : World V) (steps : List (Step V)) (reports : List (Report V)) (s' : World V) → IsFresh s → Holds same always s → IsRun same always s steps reports s' → RunsMap same no_flights empty steps reports s'
  run_fresh s steps reports s' fresh h r = run_map s steps reports s' no_flights empty h r (standing_empty same always (nodes s.forest) fresh.alone) (fresh_flights same always s fresh)

  -- a run plays on the map, and its journal goes on with its entries
  pub run_journal : (s : World V) (steps : List (Step V)) (reports : List (Report V)) (s' : World V) (fs : Flights V) (m : Pairs V) → Holds same always s → IsRun same always s steps reports s' → IsMapOf (nodes s.forest) m → AreInFlight s fs
      → RunsJournal same fs m s steps reports s'
  unfolding run_map
  run_journal s steps reports s' fs m h r st fl =
      let j = runs_journal same always s r.taken fs m h r.each st fl in
      record {
        runs = run_map s steps reports s' fs m h r st fl;
        entries = ap (λ (y : World V). y.log.entries) (sym r.last) ∙ j.entries;
        writes = j.writes;
        places = ap (λ (y : World V). y.log.places) (sym r.last) ∙ j.places;
      }

  -- a run from a root alone plays so, and its journal goes on with its entries
  pub fresh_journal : (s : World V) (steps : List (Step V)) (reports : List (Report V)) (s' : World V) → IsFresh s → Holds same always s → IsRun same always s steps reports s' → RunsJournal same no_flights empty s steps reports s'
  fresh_journal s steps reports s' fresh h r = run_journal s steps reports s' no_flights empty h r (standing_empty same always (nodes s.forest) fresh.alone) (fresh_flights same always s fresh)
