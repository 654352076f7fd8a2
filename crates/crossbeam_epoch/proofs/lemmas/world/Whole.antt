-- A call goes on by one step.
use Rattle.std.proofs.Common.{◌≡◌, ℕ, zero, suc, ◌<◌, List, [], ◌∷◌, ◌++◌, Option, Some, None, refl, sym, ◌∙◌, ap, inl, inr, length, arith}
use Rattle.std.specs.Prelude.{MatchOption}
use Rattle.std.specs.List.{Contains}
use Rattle.std.proofs.lemmas.List.{length_push}
use Rattle.std.proofs.lemmas.List.Elements.{Contains-push_cases}
use Rattle.crossbeam_epoch.specs.declared.world.report.Event.{Event}
use Rattle.crossbeam_epoch.specs.declared.world.report.Event.TheVariants.{Begin, Go}
use Rattle.crossbeam_epoch.specs.declared.world.report.Op.{Op}
use Rattle.crossbeam_epoch.specs.declared.world.report.Outcome.TheVariants.{Running}
use Rattle.crossbeam_epoch.specs.declared.world.report.Report.{Report}
use Rattle.crossbeam_epoch.specs.declared.world.report.Step.{Step}
use Rattle.crossbeam_epoch.specs.world.Machine.{State}
use Rattle.crossbeam_epoch.specs.world.Steps.{after, IsReport, state_after, AreReports}
use Rattle.crossbeam_epoch.specs.world.Calls.{event_at, call_steps, EndsWith, IsCall, IsGoing}
use Rattle.crossbeam_epoch.proofs.lemmas.world.Runs.{state_more, legal_more}

length_call : (who : ℕ) (op : Op) (n : ℕ) → length (call_steps who op n) ≡ n
length_call who op zero = refl
length_call who op (suc n) = omega (arith, length_push (call_steps who op n) (record { who = who; event = event_at op n }), length_call who op n)

module _ {T J : Type 0} where
  step_more : (s : State T J) (who : ℕ) (op : Op) (n : ℕ) (newest : Option Report) (event : Event) (now new : State T J) (r : Report) → IsGoing s who op n newest event now → IsReport now who event r → new ≡ after now who event r.outcome
      → (g : List Report) × (length g ≡ n) × (AreReports s (call_steps who op (suc n)) (g ++ r ∷ [])) × (new ≡ state_after s (call_steps who op (suc n)) (g ++ r ∷ [])) × ((x : Report) → Contains g x → x.outcome ≡ Running)
  step_more s who op n newest event now new r g is on =
      let step : Step = record { who = who; event = event_at op n } in
      let even : length (call_steps who op n) ≡ length g.reports = length_call who op n ∙ sym g.long in
      let report' : IsReport (state_after s (call_steps who op n) g.reports) who (event_at op n) r = rw (sym g.state, sym g.next) is in
      let new' : new ≡ after (state_after s (call_steps who op n) g.reports) who (event_at op n) r.outcome = rw (sym g.state, sym g.next) on in
      (g.reports, g.long, legal_more s (call_steps who op n) g.reports step r even g.legal report', new' ∙ sym (state_more s (call_steps who op n) g.reports step r even), g.going)

  -- a call that took no step is to begin
  pub going_begins : (s : State T J) (who : ℕ) (op : Op) → IsGoing s who op 0 None (Begin op) s
  going_begins s who op = record { reports = []; long = refl; legal = tt; state = refl; newest_is = refl; going = λ x m. absurd (let lt : m.0 < 0 = m.1 in omega arith); next = refl }

  -- a call whose step leaves it in flight took one step more, and goes on
  pub going_more : (s : State T J) (who : ℕ) (op : Op) (n m : ℕ) (newest : Option Report) (event : Event) (now new : State T J) (r : Report) → IsGoing s who op n newest event now → IsReport now who event r → new ≡ after now who event r.outcome → r.outcome ≡ Running → m ≡ suc n
      → IsGoing s who op m (Some r) Go new
  going_more s who op n m newest event now new r g is on runs next =
      let x = step_more s who op n newest event now new r g is on in
      rw next (record {
        reports = x.0 ++ r ∷ [];
        long = omega (arith, length_push x.0 r, x.1);
        legal = x.2;
        state = x.3;
        newest_is = (x.0, refl, x.4);
        going = λ y m. elim (Contains-push_cases x.0 r y m) [ inl old ↦ x.4 y old | inr same ↦ (sym (ap (λ (z : Report). z.outcome) same) ∙ runs) ];
        next = refl;
      })

  -- a call whose next step leaves it in flight no more is whole with that step
  pub call_ends : (s : State T J) (who : ℕ) (op : Op) (n most : ℕ) (newest : Option Report) (event : Event) (now new : State T J) (r : Report) → n < most → IsGoing s who op n newest event now → IsReport now who event r → new ≡ after now who event r.outcome → (r.outcome ≡ Running → ⊥)
      → (reports : List Report) × IsCall s who op most reports (Some r) new
  call_ends s who op n most newest event now new r lt g is on ended =
      let x = step_more s who op n newest event now new r g is on in
      let long : length (x.0 ++ r ∷ []) ≡ suc n = omega (arith, length_push x.0 r, x.1) in (
        x.0 ++ r ∷ [],
        record {
          few = omega (arith, long, lt);
          legal = rw long x.2;
          state = rw long x.3;
          newest_is = (x.0, refl, x.4);
          stops = λ runs. absurd (ended runs);
        },
      )

  -- a call that took its most steps is whole there
  pub call_stops : (s : State T J) (who : ℕ) (op : Op) (n most : ℕ) (newest : Option Report) (event : Event) (now : State T J) → n ≡ most → IsGoing s who op n newest event now → (reports : List Report) × IsCall s who op most reports newest now
  call_stops s who op n most newest event now same g = (
    g.reports,
    record {
      few = omega (arith, g.long, same);
      legal = rw g.long g.legal;
      state = rw g.long g.state;
      newest_is = g.newest_is;
      stops = by_newest newest g.newest_is;
    },
  )
    where
      by_newest : (o : Option Report) → EndsWith g.reports o → MatchOption o (most ≡ 0) (λ r. r.outcome ≡ Running → length g.reports ≡ most)
      by_newest None e = sym same ∙ sym g.long ∙ ap length e
      by_newest (Some r) e = λ runs. g.long ∙ same
