-- A whole call of one step tells of the pairs that stood.
use Rattle.std.proofs.Common.{◌≡◌, ℕ, Bool, true, false, List, [], ◌∷◌, refl, sym, ◌∙◌, ap, subst}
use Rattle.std.specs.Prelude.{Option, None, Some, length, map, option_map}
use Rattle.judge.specs.Answer.{Pairs}
use Rattle.joint.specs.declared.steps.Event.{Event}
use Rattle.joint.specs.declared.steps.Event.TheVariants.{Begin}
use Rattle.joint.specs.declared.steps.Op.{Op}
use Rattle.joint.specs.declared.steps.Op.TheVariants.{Pin, Unpin, Repin, Flush, Release, Get, Insert, Remove, ComputePresent, ComputeInsert, Exchange, Range, RangeInclusive, Keys, IsEmpty, Stats}
use Rattle.joint.specs.declared.steps.Outcome.{Outcome}
use Rattle.joint.specs.declared.steps.Outcome.TheVariants.{Running, Asks, Found, Registered, Done, Refused}
use Rattle.joint.specs.declared.steps.Report.{Report}
use Rattle.joint.specs.declared.steps.Step.{Step}
use Rattle.joint.specs.declared.steps.Survey.{Survey}
use Rattle.joint.specs.declared.steps.Survey.TheVariants as survey
use Rattle.joint.specs.declared.steps.Target.{Target}
use Rattle.joint.specs.declared.steps.Target.TheVariants as target
use Rattle.joint.specs.calls.Calling.{steps_of, GoOn, last_of, put_away, kept_report, TellsMap}
use Rattle.joint.specs.Reports.{goes_unasked, target}
use Rattle.joint.specs.calls.Runs.{IsMapRun}
use Rattle.joint.specs.world.MapSteps.{EventMap, BeginMap, Line}
use Rattle.joint.specs.engine.Flying.{Flights}
use Rattle.joint.specs.engine.Surveys.{MapTells}
use Rattle.joint.proofs.lemmas.engine.Telling.{not_going}

module _ {V : Type 0} where
  -- a report that doesn't go on is the last
  lone : (r : Report V) (rs : List (Report V)) → goes_unasked r.outcome ≡ false → GoOn (r ∷ rs) → last_of (r ∷ rs) ≡ Some r
  lone r [] e on = refl
  lone r (q ∷ rs) e on = absurd (let f : true ≡ false = sym on.0 ∙ e in cc f)

  put_away_over : (o : Outcome V) → goes_unasked o ≡ false → put_away o ≡ o
  put_away_over (Found place key value) e = absurd (cc e)
  put_away_over Running e = refl
  put_away_over (Asks found) e = refl
  put_away_over (Registered n) e = refl
  put_away_over (Done d) e = refl
  put_away_over (Refused e) q = refl

  -- what these lines told
  abbrev pub told : List (Line V) → List (Report V)
  told lines = map (λ (l : Line V). l.report) lines

module _ {V : Type 0} (same : V → V → Bool) (w : ℕ) (fs : Flights V) (m : Pairs V) where
  by_lines : (op : Op V) (k : Survey) → target op ≡ target.Survey k → (lines : List (Line V)) (fs' : Flights V) → map (λ (l : Line V). l.step) lines ≡ steps_of w op (length (told lines))
      → IsMapRun same fs m lines fs' → GoOn (told lines) → (r : Report V) → option_map kept_report (last_of (told lines)) ≡ Some r → MapTells m k r.outcome
  by_lines op k e [] fs' is run on r last = absurd (cc last)
  by_lines op k e (l ∷ ls) fs' is run on r last =
      let asked : l.step ≡ record { worker = w; event = Begin op } = cc in
      let P : Event V → Type 0 = λ x. EventMap same fs m x l run.0 in
      let Q : Target V → Type 0 = λ x. BeginMap fs m x l run.0 in
      let begun : Q (target.Survey k) = subst Q e (subst P (ap (λ s. s.event) asked) run.1) in
      let over : goes_unasked l.report.outcome ≡ false = not_going m k l.report.outcome begun.tells in
      let one : last_of (told (l ∷ ls)) ≡ Some l.report = lone l.report (told ls) over on in
      let kept : kept_report l.report ≡ r = (let q : Some (kept_report l.report) ≡ Some r = sym (ap (option_map kept_report) one) ∙ last in cc q) in
      subst (MapTells m k) (sym (put_away_over l.report.outcome over) ∙ ap (λ x. x.outcome) kept) begun.tells

  surveyed : (op : Op V) (k : Survey) → target op ≡ target.Survey k → (reports : List (Report V)) (steps : List (Step V)) → steps ≡ steps_of w op (length reports)
      → (x : (lines : List (Line V)) × (fs' : Flights V) × (map (λ (l : Line V). l.step) lines ≡ steps) × (told lines ≡ reports) × IsMapRun same fs m lines fs') → GoOn reports
      → (r : Report V) → option_map kept_report (last_of reports) ≡ Some r → MapTells m k r.outcome
  surveyed op k e reports steps is x on r last =
      let P : List (Report V) → Type 0 = λ rs. option_map kept_report (last_of rs) ≡ Some r in
      by_lines op k e x.0 x.1 (x.2 ∙ is ∙ ap (λ rs. steps_of w op (length rs)) (sym x.3)) x.4 (subst GoOn (sym x.3) on) r (subst P (sym x.3) last)

  -- a whole call of one step, where it is done, told of the pairs that stood
  pub tells : (op : Op V) (reports : List (Report V)) (result : Option (Report V)) (steps : List (Step V)) → steps ≡ steps_of w op (length reports)
      → (x : (lines : List (Line V)) × (fs' : Flights V) × (map (λ (l : Line V). l.step) lines ≡ steps) × (told lines ≡ reports) × IsMapRun same fs m lines fs') → GoOn reports
      → option_map kept_report (last_of reports) ≡ result → TellsMap m op result
  tells Keys reports (Some r) steps is x on last = surveyed Keys survey.Keys refl reports steps is x on r last
  tells IsEmpty reports (Some r) steps is x on last = surveyed IsEmpty survey.IsEmpty refl reports steps is x on r last
  tells Stats reports (Some r) steps is x on last = surveyed Stats survey.Stats refl reports steps is x on r last
  tells Keys reports None steps is x on last = tt
  tells IsEmpty reports None steps is x on last = tt
  tells Stats reports None steps is x on last = tt
  tells Pin reports result steps is x on last = tt
  tells Unpin reports result steps is x on last = tt
  tells Repin reports result steps is x on last = tt
  tells Flush reports result steps is x on last = tt
  tells Release reports result steps is x on last = tt
  tells (Get k) reports result steps is x on last = tt
  tells (Insert k v) reports result steps is x on last = tt
  tells (Remove k) reports result steps is x on last = tt
  tells (ComputePresent k) reports result steps is x on last = tt
  tells (ComputeInsert k) reports result steps is x on last = tt
  tells (Exchange k old new) reports result steps is x on last = tt
  tells (Range start end size) reports result steps is x on last = tt
  tells (RangeInclusive start greatest size) reports result steps is x on last = tt
