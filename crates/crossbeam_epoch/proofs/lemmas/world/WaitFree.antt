-- A call ends within its steps, whatever others do between them.
use Rattle.std.proofs.Common.{◌≡◌, ◌≢◌, ℕ, ◌+◌, ◌<◌, ◌≤◌, ◌==◌, true, false, List, [], ◌∷◌, ◌++◌, Option, Some, None, refl, sym, ◌∙◌, ap, subst, inl, inr, length, arith}
use Rattle.std.specs.Prelude.{if◌then◌else◌}
use Rattle.std.specs.List.{Contains}
use Rattle.std.proofs.lemmas.Bool.{cases_eq}
use Rattle.std.proofs.lemmas.Bool.Decides.{nat_tests}
use Rattle.std.proofs.lemmas.List.Elements.{Contains-push_cases}
use Rattle.crossbeam_epoch.specs.declared.fault.Fault.{Fault}
use Rattle.crossbeam_epoch.specs.declared.fault.Fault.TheVariants as F
use Rattle.crossbeam_epoch.specs.declared.names.Name.{Name}
use Rattle.crossbeam_epoch.specs.declared.world.participant.Participant.{Participant}
use Rattle.crossbeam_epoch.specs.declared.world.participant.Phase.{Phase}
use Rattle.crossbeam_epoch.specs.declared.world.participant.Phase.TheVariants.{Idle, RepinLook, RepinPublish, ReleaseSeal, ReleaseQueue, Secure, SecureSeal, SecureQueue}
use Rattle.crossbeam_epoch.specs.declared.world.report.Event.{Event}
use Rattle.crossbeam_epoch.specs.declared.world.report.Event.TheVariants.{Begin, Go}
use Rattle.crossbeam_epoch.specs.declared.world.report.Op.{Op}
use Rattle.crossbeam_epoch.specs.declared.world.report.Op.TheVariants as O
use Rattle.crossbeam_epoch.specs.declared.world.report.Outcome.{Outcome}
use Rattle.crossbeam_epoch.specs.declared.world.report.Outcome.TheVariants.{Running, Done, Refused}
use Rattle.crossbeam_epoch.specs.declared.world.report.Report.{Report}
use Rattle.crossbeam_epoch.specs.declared.world.report.Step.{Step}
use Rattle.crossbeam_epoch.specs.world.Calls.{call_steps, IsCall}
use Rattle.crossbeam_epoch.specs.world.Machine.{State, place}
use Rattle.crossbeam_epoch.specs.world.Progress.{Orderly, Moves, Begins, GoesOn, IsOn, comes_by, left_in, stage, steps_left}
use Rattle.crossbeam_epoch.specs.world.Steps.{fault, busy_fault, event_fault, after, IsOutcome, IsReport, AreReports}
use Rattle.crossbeam_epoch.specs.world.WaitFree.{most_steps, is_own, counted, steps_in_flight, AllEndInTime, IsOver}
use Rattle.crossbeam_epoch.proofs.lemmas.world.Moves.{contains_tail}
use Rattle.crossbeam_epoch.proofs.lemmas.world.Progress.{moves_reported}
use Rattle.crossbeam_epoch.proofs.lemmas.world.Runs.{known_if_faultless, begin_idle, refused_begin}
use Rattle.crossbeam_epoch.proofs.lemmas.world.Stages.{reported_begins, reported_goes_on}
use Rattle.crossbeam_epoch.proofs.lemmas.world.Wholes.{Unrefused, fault_unrefused, go_steps, from_front}

-- a call in flight has a step left
some_left : (w hand : ℕ) (op : Op) (phase : Phase) → comes_by (stage phase) op ≡ true → 0 < left_in w phase hand
some_left w hand op Idle e = absurd (cc e)
some_left w hand op _ e = omega arith

repin_left : (w hand : ℕ) (phase : Phase) → comes_by (stage phase) O.Repin ≡ true → left_in w phase hand ≤ 2
repin_left w hand RepinLook e = omega arith
repin_left w hand (RepinPublish seen) e = omega arith
repin_left w hand _ e = absurd (cc e)

release_left : (w hand : ℕ) (phase : Phase) → comes_by (stage phase) O.Release ≡ true → left_in w phase hand ≤ 2
release_left w hand ReleaseSeal e = omega arith
release_left w hand (ReleaseQueue seal) e = omega arith
release_left w hand _ e = absurd (cc e)

secure_left : (w hand n : ℕ) (phase : Phase) → comes_by (stage phase) (O.Secure n) ≡ true → left_in w phase hand ≤ 3
secure_left w hand n (Secure m) e = omega arith
secure_left w hand n SecureSeal e = omega arith
secure_left w hand n (SecureQueue seal) e = omega arith
secure_left w hand n _ e = absurd (cc e)

unpin_left : (phase : Phase) → comes_by (stage phase) O.Unpin ≡ true → ⊥
unpin_left Idle e = cc e
unpin_left _ e = cc e

few_left : (w hand : ℕ) (op : Op) (phase : Phase) → comes_by (stage phase) op ≡ true → left_in w phase hand ≤ w + 526 → 1 + left_in w phase hand ≤ most_steps w op
few_left w hand O.Pin phase e le = omega (arith, le)
few_left w hand O.Unpin phase e le = absurd (unpin_left phase e)
few_left w hand O.Repin phase e le = let few = repin_left w hand phase e in omega (arith, few)
few_left w hand O.Flush phase e le = omega (arith, le)
few_left w hand O.Release phase e le = let few = release_left w hand phase e in omega (arith, few)
few_left w hand (O.Secure n) phase e le = let few = secure_left w hand n phase e in omega (arith, few)

some_steps : (w : ℕ) (op : Op) → 0 < most_steps w op
some_steps w O.Pin = omega arith
some_steps w O.Unpin = omega arith
some_steps w O.Repin = omega arith
some_steps w O.Flush = omega arith
some_steps w O.Release = omega arith
some_steps w (O.Secure n) = omega arith

-- where each step goes on, each is counted
all_counted : (who : ℕ) (rs : List Report) → ((x : Report) → Contains rs x → x.outcome ≡ Running) → steps_in_flight who (go_steps who (length rs)) rs ≡ length rs
all_counted who [] all = refl
all_counted who (r ∷ rs) all =
    let own : (who == who) ≡ true = grind (arith, nat_tests) in
    let more = all_counted who rs (λ x m. all x (contains_tail r rs x m)) in
    rw (own, all r (0, omega arith, refl)) (omega (arith, more))

module _ {J : Type 0} where
  busy : (op op' : Op) (phase : Phase) (p : Participant J) → comes_by (stage phase) op ≡ true → event_fault (Begin op') phase p ≡ Some (busy_fault op')
  busy op op' Idle p e = absurd (cc e)
  busy op op' _ p e = refl

module _ {T J : Type 0} where
  -- a call doesn't begin in mid-call
  stays_busy : (s : State T J) (who : ℕ) (op op' : Op) (r : Report) → IsOn op (place s who) → IsReport s who (Begin op') r → after s who (Begin op') r.outcome ≡ s
  stays_busy s who op op' r on is =
      let same : fault s who (Begin op') ≡ Some (busy_fault op') = ap (λ b. if b then event_fault (Begin op') (place s who).phase (place s who) else Some F.Unknown) on.0 ∙ busy op op' (place s who).phase (place s who) on.1 in
      let P : Option Fault → Type 0 = λ x. IsOutcome s who (Begin op') x r.outcome in
      let o : r.outcome ≡ Refused (busy_fault op') = subst P same is.outcome in
      ap (λ (x : Outcome). after s who (Begin op') x) o ∙ refused_begin s who op' (busy_fault op')

  -- another's step leaves a call as it is
  beside : (s s' : State T J) (who q : ℕ) (op : Op) (c : Option (ℕ × Option Name)) → who ≢ q → Moves s q c s' → IsOn op (place s who) → IsOn op (place s' who) × (steps_left s' who ≡ steps_left s who)
  beside s s' who q op c ne m on =
      let same = m.others who ne in (
        subst (λ (p : Participant J). IsOn op p) (sym same) on,
        ap (λ (p : Participant J). left_in (length s'.table) p.phase (length p.hand)) same ∙ ap (λ w. left_in w (place s who).phase (length (place s who).hand)) m.table,
      )

  own_step : (s : State T J) (who : ℕ) (op : Op) (n : ℕ) (o : Outcome) → IsOn op (place s who) → GoesOn s who op o (after s who Go o) → (IsOn op (place (after s who Go o) who) → n < steps_left (after s who Go o) who) → counted o n < steps_left s who
  own_step s who op n Running on g next = let less = next g.0 in let fewer = g.1 in omega (arith, less, fewer)
  own_step s who op n Done on g next = some_left (length s.table) (length (place s who).hand) op (place s who).phase on.1
  own_step s who op n (Refused f) on g next = some_left (length s.table) (length (place s who).hand) op (place s who).phase on.1

  other_step : (s : State T J) (who q : ℕ) (op : Op) (n : ℕ) (event : Event) (r : Report) → who ≢ q → Orderly s → IsOn op (place s who) → IsReport s q event r
      → (IsOn op (place (after s q event r.outcome) who) → n < steps_left (after s q event r.outcome) who) → n < steps_left s who
  other_step s who q op n event r ne o on is next =
      let b = beside s (after s q event r.outcome) who q op r.called ne (moves_reported s q event r o is) on in
      let less = next b.0 in let same = b.1 in omega (arith, less, same)

  -- n steps that leave the call in flight, and the step before them
  any_step : (s : State T J) (who q : ℕ) (op : Op) (n : ℕ) (event : Event) (r : Report) → Orderly s → IsOn op (place s who) → IsReport s q event r
      → (IsOn op (place (after s q event r.outcome) who) → n < steps_left (after s q event r.outcome) who) → (if is_own who q event then counted r.outcome n else n) < steps_left s who
  any_step s who q op n (Begin op') r o on is next = elim (cases_eq who q) [
    | inl same ↦
        let is' = subst (λ x. IsReport s x (Begin op') r) (sym same) is in
        let kept = stays_busy s who op op' r on is' in
        let next' = subst (λ x. IsOn op (place (after s x (Begin op') r.outcome) who) → n < steps_left (after s x (Begin op') r.outcome) who) (sym same) next in
        let P : State T J → Type 0 = λ x. IsOn op (place x who) → n < steps_left x who in
        subst P kept next' on
    | inr ne ↦ other_step s who q op n (Begin op') r ne o on is next
  ]
  any_step s who q op n Go r o on is next = elim (cases_eq who q) [
    | inl same ↦
        let own : (q == who) ≡ true = grind (arith, nat_tests) in
        let is' = subst (λ x. IsReport s x Go r) (sym same) is in
        let next' = subst (λ x. IsOn op (place (after s x Go r.outcome) who) → n < steps_left (after s x Go r.outcome) who) (sym same) next in
        rw own (own_step s who op n r.outcome on (reported_goes_on s who op r o on is') next')
    | inr ne ↦
        let other : (q == who) ≡ false = grind (arith, nat_tests) in
        rw other (other_step s who q op n Go r ne o on is next)
  ]

  -- a call in flight is left so by fewer steps than it has left
  pub in_time : (s : State T J) (who : ℕ) (op : Op) (steps : List Step) (reports : List Report) → Orderly s → IsOn op (place s who) → AreReports s steps reports → steps_in_flight who steps reports < steps_left s who
  in_time s who op [] reports o on are = some_left (length s.table) (length (place s who).hand) op (place s who).phase on.1
  in_time s who op (step ∷ steps) [] o on are = some_left (length s.table) (length (place s who).hand) op (place s who).phase on.1
  in_time s who op (step ∷ steps) (r ∷ reports) o on are =
      let m = moves_reported s step.who step.event r o are.0 in
      any_step s who step.who op (steps_in_flight who steps reports) step.event r o on are.0 (λ on'. in_time (after s step.who step.event r.outcome) who op steps reports m.orderly on' are.1)

  -- a call that goes on has begun, and has its steps left
  begun_on : (s : State T J) (who : ℕ) (op : Op) (r : Report) → IsReport s who (Begin op) r → r.outcome ≡ Running → Begins s who op Running (after s who (Begin op) Running)
  begun_on s who op r is runs =
      let u : Unrefused r.outcome = subst (λ o. Unrefused o) (sym runs) tt in
      let k = known_if_faultless (place s who).registered (event_fault (Begin op) (place s who).phase (place s who)) (fault_unrefused s who (Begin op) r is u) in
      let idle = begin_idle op (place s who).phase (place s who) k.1 in
      let P : Outcome → Type 0 = λ x. Begins s who op x (after s who (Begin op) x) in
      subst P runs (reported_begins s who op r idle is)

  first_in_time : (s : State T J) (who : ℕ) (op : Op) (r : Report) (steps : List Step) (reports : List Report) → Orderly s → IsReport s who (Begin op) r → r.outcome ≡ Running → AreReports (after s who (Begin op) r.outcome) steps reports
      → 1 + steps_in_flight who steps reports < most_steps (length s.table) op
  first_in_time s who op r steps reports o is runs are =
      let m = moves_reported s who (Begin op) r o is in
      let P : Outcome → Type 0 = λ x. Moves s who r.called (after s who (Begin op) x) in
      let Q : Outcome → Type 0 = λ x. AreReports (after s who (Begin op) x) steps reports in
      let s' = after s who (Begin op) Running in
      let m' : Moves s who r.called s' = subst P runs m in
      let b = begun_on s who op r is runs in
      let less = in_time s' who op steps reports m'.orderly b.1 (subst Q runs are) in
      let long = m'.table in
      let few : left_in (length s'.table) (place s' who).phase (length (place s' who).hand) ≤ length s'.table + 526 = omega (arith, b.2, long) in
      let most = few_left (length s'.table) (length (place s' who).hand) op (place s' who).phase b.1.1 few in
      let same : most_steps (length s'.table) op ≡ most_steps (length s.table) op = ap (λ w. most_steps w op) long in
      omega (arith, less, most, same)

  -- each call that begins in a run ends within its most steps
  pub all_in_time : (s : State T J) (steps : List Step) (reports : List Report) → Orderly s → AreReports s steps reports → AllEndInTime (length s.table) steps reports
  all_in_time s [] reports o are = tt
  all_in_time s (step ∷ steps) [] o are = tt
  all_in_time s (step ∷ steps) (r ∷ reports) o are =
      let m = moves_reported s step.who step.event r o are.0 in (
        λ op is runs. (
            let P : Event → Type 0 = λ x. IsReport s step.who x r in
            let Q : Event → Type 0 = λ x. AreReports (after s step.who x r.outcome) steps reports in
            first_in_time s step.who op r steps reports o (subst P is are.0) runs (subst Q is are.1)
            ),
        subst (λ w. AllEndInTime w steps reports) m.table (all_in_time (after s step.who step.event r.outcome) steps reports m.orderly are.1),
      )

  -- a call all of whose steps go on took fewer than its most
  all_run : (s : State T J) (who : ℕ) (op : Op) (rs : List Report) → Orderly s → AreReports s (call_steps who op (length rs)) rs → ((x : Report) → Contains rs x → x.outcome ≡ Running) → length rs < most_steps (length s.table) op
  all_run s who op [] o are all = some_steps (length s.table) op
  all_run s who op (r ∷ rs) o are all =
      let steps = from_front who op (length rs) in
      let are' = rw steps at are in
      let less = first_in_time s who op r (go_steps who (length rs)) rs o are'.0 (all r (0, omega arith, refl)) are'.1 in
      let n = all_counted who rs (λ x m. all x (contains_tail r rs x m)) in
      omega (arith, less, n)

  -- a whole call that may take its most steps is over at its end
  pub call_over : (s : State T J) (who : ℕ) (op : Op) (most : ℕ) (reports : List Report) (newest : Option Report) (s' : State T J) → Orderly s → IsCall s who op most reports newest s' → most_steps (length s.table) op ≤ most → IsOver newest
  call_over s who op most reports None s' o c le = let none : most ≡ 0 = c.stops in let some = some_steps (length s.table) op in omega (arith, none, le, some)
  call_over s who op most reports (Some r) s' o c le = λ runs.
      let front = c.newest_is.0 in
      let is = c.newest_is.1 in
      let each : (x : Report) → Contains (front ++ r ∷ []) x → x.outcome ≡ Running = λ x m. elim (Contains-push_cases front r x m) [
        | inl old ↦ c.newest_is.2 x old
        | inr same ↦ sym (ap (λ (z : Report). z.outcome) same) ∙ runs
      ] in
      let all : (x : Report) → Contains reports x → x.outcome ≡ Running = λ x m. each x (subst (λ (xs : List Report). Contains xs x) is m) in
      let few = all_run s who op reports o c.legal all in
      let long : length reports ≡ most = c.stops runs in
      omega (arith, few, long, le)
