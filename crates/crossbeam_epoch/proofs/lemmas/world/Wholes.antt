-- What holds after each step of a whole call holds at its end.
use Rattle.std.proofs.Common.{◌≡◌, ◌⊎◌, ℕ, zero, suc, List, [], ◌∷◌, ◌++◌, Option, Some, None, refl, sym, ◌∙◌, ap, subst, inl, inr, length, arith, replicate}
use Rattle.std.specs.List.{Contains}
use Rattle.std.proofs.lemmas.List.Elements.{Contains-push_cases}
use Rattle.crossbeam_epoch.specs.declared.fault.Fault.{Fault}
use Rattle.crossbeam_epoch.specs.declared.world.participant.Phase.TheVariants.{Idle}
use Rattle.crossbeam_epoch.specs.declared.world.report.Event.{Event}
use Rattle.crossbeam_epoch.specs.declared.world.report.Event.TheVariants.{Begin, Go}
use Rattle.crossbeam_epoch.specs.declared.world.report.Op.{Op}
use Rattle.crossbeam_epoch.specs.declared.world.report.Outcome.{Outcome}
use Rattle.crossbeam_epoch.specs.declared.world.report.Outcome.TheVariants.{Running, Done, Refused}
use Rattle.crossbeam_epoch.specs.declared.world.report.Report.{Report}
use Rattle.crossbeam_epoch.specs.declared.world.report.Step.{Step}
use Rattle.crossbeam_epoch.specs.world.Machine.{State, place}
use Rattle.crossbeam_epoch.specs.world.Steps.{fault, moved, after, IsOutcome, IsReport, state_after, AreReports}
use Rattle.crossbeam_epoch.specs.world.Calls.{call_steps}
use Rattle.crossbeam_epoch.specs.world.Rounds.{Finishes}
use Rattle.crossbeam_epoch.proofs.lemmas.world.Moves.{contains_tail}
use Rattle.crossbeam_epoch.proofs.lemmas.world.Stages.{done_idle}

-- a step that isn't refused
abbrev pub Unrefused : Outcome → Type 0
Unrefused Running = Unit {0}
Unrefused Done = Unit {0}
Unrefused (Refused f) = ⊥

is_unrefused : (o : Outcome) → (o ≡ Running) ⊎ (o ≡ Done) → Unrefused o
is_unrefused Running e = tt
is_unrefused Done e = tt
is_unrefused (Refused f) (inl e) = absurd (cc e)
is_unrefused (Refused f) (inr e) = absurd (cc e)

-- the steps of a call after its first
abbrev pub go_steps : ℕ → ℕ → List Step
go_steps who n = replicate n (record { who = who; event = Go })

goes_push : (who n : ℕ) → go_steps who n ++ (record { who = who; event = Go }) ∷ [] ≡ go_steps who (suc n)
goes_push who zero = refl
goes_push who (suc n) = ap (λ (xs : List Step). (record { who = who; event = Go }) ∷ xs) (goes_push who n)

-- the steps of a call are its begin and the next ones
pub from_front : (who : ℕ) (op : Op) (n : ℕ) → call_steps who op (suc n) ≡ (record { who = who; event = Begin op }) ∷ go_steps who n
from_front who op zero = refl
from_front who op (suc n) =
    ap (λ (xs : List Step). xs ++ (record { who = who; event = Go }) ∷ []) (from_front who op n)
    ∙ ap (λ (xs : List Step). (record { who = who; event = Begin op }) ∷ xs) (goes_push who n)

-- the outcome of the newest report
abbrev newest_of : Outcome → List Report → Outcome
newest_of o [] = o
newest_of o (r ∷ rs) = newest_of r.outcome rs

newest_push : (o : Outcome) (front : List Report) (r : Report) → newest_of o (front ++ r ∷ []) ≡ r.outcome
newest_push o [] r = refl
newest_push o (x ∷ front) r = newest_push x.outcome front r

module _ {T J : Type 0} where
  no_fault : (s : State T J) (who : ℕ) (event : Event) (e : Option Fault) (o : Outcome) → IsOutcome s who event e o → Unrefused o → e ≡ None
  no_fault s who event None o is u = refl
  no_fault s who event (Some f) Running is u = absurd (cc is)
  no_fault s who event (Some f) Done is u = absurd (cc is)
  no_fault s who event (Some f) (Refused g) is u = absurd u

  -- a step that isn't refused has no fault
  pub fault_unrefused : (s : State T J) (who : ℕ) (event : Event) (r : Report) → IsReport s who event r → Unrefused r.outcome → fault s who event ≡ None
  fault_unrefused s who event r is u = no_fault s who event (fault s who event) r.outcome is.outcome u

  -- a step that isn't refused leaves what such a step makes of the state
  pub as_moved : (s : State T J) (who : ℕ) (event : Event) (o : Outcome) → Unrefused o → after s who event o ≡ moved s who event
  as_moved s who event Running u = refl
  as_moved s who event Done u = refl
  as_moved s who event (Refused f) u = absurd u

  at_end : (s : State T J) (who : ℕ) (event : Event) (e : Option Fault) (o : Outcome) → IsOutcome s who event e o → o ≡ Done → (place (after s who event o) who).phase ≡ Idle
  at_end s who event None Done is d = done_idle (place (moved s who event) who).phase is
  at_end s who event (Some f) Done is d = absurd (cc is)
  at_end s who event e Running is d = absurd (cc d)
  at_end s who event e (Refused f) is d = absurd (cc d)

  ends_idle : (s : State T J) (who : ℕ) (event : Event) (r : Report) → IsReport s who event r → r.outcome ≡ Done → (place (after s who event r.outcome) who).phase ≡ Idle
  ends_idle s who event r is d = at_end s who event (fault s who event) r.outcome is.outcome d

  -- by the steps after the first
  through : (Inv : State T J → Type 0) (who : ℕ) → ((now : State T J) (r : Report) → Inv now → IsReport now who Go r → Unrefused r.outcome → Inv (after now who Go r.outcome))
      → (now : State T J) (o : Outcome) (rs : List Report) → Inv now → (o ≡ Done → (place now who).phase ≡ Idle) → AreReports now (go_steps who (length rs)) rs → ((r : Report) → Contains rs r → Unrefused r.outcome)
      → Inv (state_after now (go_steps who (length rs)) rs) × (newest_of o rs ≡ Done → (place (state_after now (go_steps who (length rs)) rs) who).phase ≡ Idle)
  through Inv who next now o [] i idle are all = (i, idle)
  through Inv who next now o (r ∷ rs) i idle are all =
      through Inv who next (after now who Go r.outcome) r.outcome rs (next now r i are.0 (all r (0, omega arith, refl))) (ends_idle now who Go r are.0) are.1 (λ x m. all x (contains_tail r rs x m))

  -- a whole call
  by_reports : (Inv : State T J → Type 0) (s : State T J) (who : ℕ) (op : Op) (rs : List Report)
      → ((r : Report) → IsReport s who (Begin op) r → Unrefused r.outcome → Inv (after s who (Begin op) r.outcome))
      → ((now : State T J) (r : Report) → Inv now → IsReport now who Go r → Unrefused r.outcome → Inv (after now who Go r.outcome))
      → AreReports s (call_steps who op (length rs)) rs → ((r : Report) → Contains rs r → Unrefused r.outcome) → newest_of Running rs ≡ Done
      → Inv (state_after s (call_steps who op (length rs)) rs) × ((place (state_after s (call_steps who op (length rs)) rs) who).phase ≡ Idle)
  by_reports Inv s who op [] first next are all d = absurd (cc d)
  by_reports Inv s who op (r ∷ rs) first next are all d =
      let steps = from_front who op (length rs) in
      let are' = rw steps at are in
      let x = through Inv who next (after s who (Begin op) r.outcome) r.outcome rs (first r are'.0 (all r (0, omega arith, refl))) (ends_idle s who (Begin op) r are'.0) are'.1 (λ y m. all y (contains_tail r rs y m)) in
      rw steps (x.0, x.1 d)

  -- what holds after a call's begin, and over each of its steps, holds at its end, and no call is in flight
  pub finishing : (Inv : State T J → Type 0) (s : State T J) (who : ℕ) (op : Op) (s' : State T J)
      → ((r : Report) → IsReport s who (Begin op) r → Unrefused r.outcome → Inv (after s who (Begin op) r.outcome))
      → ((now : State T J) (r : Report) → Inv now → IsReport now who Go r → Unrefused r.outcome → Inv (after now who Go r.outcome))
      → Finishes s who op s' → Inv s' × ((place s' who).phase ≡ Idle)
  finishing Inv s who op s' first next f =
      let front = f.call.newest_is.0 in
      let is = f.call.newest_is.1 in
      rw f.call.state (by_reports Inv s who op f.reports first next f.call.legal (λ r m. is_unrefused r.outcome (each r (subst (λ (xs : List Report). Contains xs r) is m)))
      (ap (newest_of Running) is ∙ newest_push Running front f.newest ∙ f.done))
    where
      each : (r : Report) → Contains (f.call.newest_is.0 ++ f.newest ∷ []) r → (r.outcome ≡ Running) ⊎ (r.outcome ≡ Done)
      each r m = elim (Contains-push_cases f.call.newest_is.0 f.newest r m) [
        | inl old ↦ inl (f.call.newest_is.2 r old)
        | inr same ↦ inr (sym (ap (λ (z : Report). z.outcome) same) ∙ f.done)
      ]
