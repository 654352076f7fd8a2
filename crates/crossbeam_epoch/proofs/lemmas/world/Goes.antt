-- What steps report and leave.
use Rattle.std.proofs.Common.{◌≡◌, ℕ, ◌<◌, ◌⊎◌, true, Option, Some, None, refl, sym, ◌∙◌, ap, subst, inl, inr, length}
use Rattle.std.specs.Prelude.{if◌then◌else◌}
use Rattle.std.proofs.lemmas.List.{get_or-set_same}
use Rattle.crossbeam_epoch.specs.declared.fault.Fault.{Fault}
use Rattle.crossbeam_epoch.specs.declared.fault.Fault.TheVariants as F
use Rattle.crossbeam_epoch.specs.declared.world.participant.Participant.{Participant}
use Rattle.crossbeam_epoch.specs.declared.world.participant.Phase.{Phase}
use Rattle.crossbeam_epoch.specs.declared.world.participant.Phase.TheVariants.{Idle, Look, Publish, RepinLook, RepinPublish, Seal, Queue, ReleaseSeal, ReleaseQueue, Secure, SecureSeal, SecureQueue, Load, Inspect, Advance, Take, Call}
use Rattle.crossbeam_epoch.specs.declared.world.report.Event.{Event}
use Rattle.crossbeam_epoch.specs.declared.world.report.Event.TheVariants.{Begin, Go}
use Rattle.crossbeam_epoch.specs.declared.world.report.Op.{Op}
use Rattle.crossbeam_epoch.specs.declared.world.report.Op.TheVariants as O
use Rattle.crossbeam_epoch.specs.declared.world.report.Outcome.{Outcome}
use Rattle.crossbeam_epoch.specs.declared.world.report.Outcome.TheVariants.{Running, Done, Refused}
use Rattle.crossbeam_epoch.specs.declared.world.report.Report.{Report}
use Rattle.crossbeam_epoch.specs.world.Machine.{State, place, blank, with_place, in_phase}
use Rattle.crossbeam_epoch.specs.world.Steps.{begin_fault, begun_at, begun, busy_fault, outcome_at, outcome_or, place_or, event_fault, fault, gone, moved, needs_memory, after, called_by, called_in, IsOutcome, IsReport}
use Rattle.crossbeam_epoch.proofs.lemmas.world.Runs.{begin_after}

-- a phase ends a call or goes on
ends_or_goes : (phase : Phase) → (outcome_at phase ≡ Done) ⊎ (outcome_at phase ≡ Running)
ends_or_goes Idle = inl refl
ends_or_goes Look = inr refl
ends_or_goes (Publish seen) = inr refl
ends_or_goes RepinLook = inr refl
ends_or_goes (RepinPublish seen) = inr refl
ends_or_goes Seal = inr refl
ends_or_goes (Queue seal) = inr refl
ends_or_goes ReleaseSeal = inr refl
ends_or_goes (ReleaseQueue seal) = inr refl
ends_or_goes (Secure n) = inr refl
ends_or_goes SecureSeal = inr refl
ends_or_goes (SecureQueue seal) = inr refl
ends_or_goes Load = inr refl
ends_or_goes (Inspect seen at) = inr refl
ends_or_goes (Advance seen) = inr refl
ends_or_goes (Take answered bags) = inr refl
ends_or_goes (Call answered bags seal) = inr refl

-- a phase refuses nothing
pub no_refusal : (phase : Phase) (f : Fault) → Refused f ≡ outcome_at phase → ⊥
no_refusal phase f e = elim (ends_or_goes phase) [ inl at ↦ absurd (cc (e, at)) | inr at ↦ absurd (cc (e, at)) ]

-- only an idle place lets a call begin
busy : {J : Type 0} → (op : Op) (phase : Phase) (p : Participant J) → (phase ≡ Idle → ⊥) → event_fault (Begin op) phase p ≡ Some (busy_fault op)
busy op Idle p in_call = absurd (in_call refl)
busy op Look p in_call = refl
busy op (Publish seen) p in_call = refl
busy op RepinLook p in_call = refl
busy op (RepinPublish seen) p in_call = refl
busy op Seal p in_call = refl
busy op (Queue seal) p in_call = refl
busy op ReleaseSeal p in_call = refl
busy op (ReleaseQueue seal) p in_call = refl
busy op (Secure n) p in_call = refl
busy op SecureSeal p in_call = refl
busy op (SecureQueue seal) p in_call = refl
busy op Load p in_call = refl
busy op (Inspect seen at) p in_call = refl
busy op (Advance seen) p in_call = refl
busy op (Take answered bags) p in_call = refl
busy op (Call answered bags seal) p in_call = refl

module _ {T J : Type 0} where
  -- a step may be reported so, and leaves this
  abbrev pub Steps : State T J → State T J → ℕ → Event → Report → Type 0
  Steps s s' who event r = IsReport s who event r × (s' ≡ after s who event r.outcome)

  begin_calls : (s : State T J) (who : ℕ) (op : Op) (o : Outcome) → None ≡ called_in s who (Begin op) o
  begin_calls s who op Running = refl
  begin_calls s who op Done = refl
  begin_calls s who op (Refused f) = refl

  fault_of : (s : State T J) (who : ℕ) (op : Op) (phase : Phase) (f : Option Fault) → (place s who).registered ≡ true → (place s who).phase ≡ phase → event_fault (Begin op) phase (place s who) ≡ f → fault s who (Begin op) ≡ f
  fault_of s who op phase f reg is at =
      subst (λ b. (if b then event_fault (Begin op) (place s who).phase (place s who) else Some F.Unknown) ≡ f) (sym reg)
      (subst (λ ph. event_fault (Begin op) ph (place s who) ≡ f) (sym is) at)

  stays : (s : State T J) (who : ℕ) (op : Op) → s ≡ after s who (Begin op) (Refused (busy_fault op))
  stays s who O.Pin = refl
  stays s who O.Unpin = refl
  stays s who O.Repin = refl
  stays s who O.Flush = refl
  stays s who O.Release = refl
  stays s who (O.Secure n) = refl

  -- a call that begins in mid-call
  pub refuses : (s : State T J) (who : ℕ) (op : Op) (f : Fault) (r : Report) → (place s who).registered ≡ true → ((place s who).phase ≡ Idle → ⊥) → f ≡ busy_fault op → r ≡ record { called = None; outcome = Refused f } → Steps s s who (Begin op) r
  refuses s who op f r reg in_call of at =
      subst (λ x. Steps s s who (Begin op) x) (sym (at ∙ ap (λ (x : Fault). record { called = None; outcome = Refused x }) of)) (
        record {
          outcome = subst (λ x. IsOutcome s who (Begin op) x (Refused (busy_fault op))) (sym (fault_of s who op (place s who).phase (Some (busy_fault op)) reg refl (busy op (place s who).phase (place s who) in_call))) refl;
          job = refl;
        },
        stays s who op,
      )

  begun_so : (s : State T J) (who : ℕ) (op : Op) (f : Option Fault) (o : Outcome) → place (begun s who op) who ≡ begun_at op (place s who) → o ≡ outcome_or f (begun_at op (place s who)) → IsOutcome s who (Begin op) f o
  begun_so s who op (Some f) o there on = on
  begun_so s who op None o there on = elim (ends_or_goes (begun_at op (place s who)).phase) [
    | inl e ↦ subst (λ x. IsOutcome s who (Begin op) None x) (sym (on ∙ e)) (ap (λ (x : Participant J). outcome_at x.phase) there ∙ e)
    | inr e ↦ subst (λ x. IsOutcome s who (Begin op) None x) (sym (on ∙ e)) (ap (λ (x : Participant J). outcome_at x.phase) there ∙ e)
  ]

  -- a call begins between calls
  pub begin_steps : (s s' : State T J) (who : ℕ) (op : Op) (o : Outcome) (r : Report) → (place s who).registered ≡ true → (place s who).phase ≡ Idle → who < length s.table
      → o ≡ outcome_or (begin_fault op (place s who)) (begun_at op (place s who)) → s' ≡ with_place s who (place_or (begin_fault op (place s who)) (begun_at op (place s who)) (place s who)) → r ≡ record { called = None; outcome = o } → Steps s s' who (Begin op) r
  begin_steps s s' who op o r reg is lt on st at =
      let f = begin_fault op (place s who) in
      let none = fault_of s who op Idle f reg is refl in
      subst (λ x. Steps s s' who (Begin op) x) (sym at) (
        record {
          outcome = subst (λ x. IsOutcome s who (Begin op) x o) (sym none) (begun_so s who op f o (get_or-set_same s.table who (begun_at op (place s who)) blank lt) on);
          job = begin_calls s who op o;
        },
        st ∙ sym (subst (λ x. after s who (Begin op) x ≡ with_place s who (place_or f (begun_at op (place s who)) (place s who))) (sym on) (begin_after s who op f)),
      )

module _ {T J : Type 0} where
  abbrev Goes : State T J → State T J → ℕ → Report → Type 0
  Goes s s' who r = Steps s s' who Go r

  no_fault : (s : State T J) (who : ℕ) (phase : Phase) → (place s who).registered ≡ true → (place s who).phase ≡ phase → event_fault Go phase (place s who) ≡ None → fault s who Go ≡ None
  no_fault s who phase reg is none =
      subst (λ b. (if b then event_fault Go (place s who).phase (place s who) else Some F.Unknown) ≡ None) (sym reg)
      (subst (λ ph. event_fault Go ph (place s who) ≡ None) (sym is) none)

  -- a step that nothing refuses
  pub goes : (s s' : State T J) (who : ℕ) (phase : Phase) (r : Report) → (place s who).registered ≡ true → (place s who).phase ≡ phase → event_fault Go phase (place s who) ≡ None
      → r.outcome ≡ outcome_at (place (gone s who phase) who).phase → r.called ≡ called_by s.store phase (place s who).hand → s' ≡ gone s who phase → Goes s s' who r
  goes s s' who phase r reg is none on job st =
      let free = no_fault s who phase reg is none in
      let at : r.outcome ≡ outcome_at (place (moved s who Go) who).phase = subst (λ ph. r.outcome ≡ outcome_at (place (gone s who ph) who).phase) (sym is) on in
      let calls : r.called ≡ called_by s.store (place s who).phase (place s who).hand = subst (λ ph. r.called ≡ called_by s.store ph (place s who).hand) (sym is) job in
      let left : s' ≡ moved s who Go = subst (λ ph. s' ≡ gone s who ph) (sym is) st in
      elim (ends_or_goes (place (moved s who Go) who).phase) [
        | inl e ↦
            let done : r.outcome ≡ Done = at ∙ e in (
              record {
                outcome = subst (λ f. IsOutcome s who Go f r.outcome) (sym free) (subst (λ o. IsOutcome s who Go None o) (sym done) e);
                job = subst (λ o. r.called ≡ called_in s who Go o) (sym done) calls;
              },
              subst (λ o. s' ≡ after s who Go o) (sym done) left,
            )
        | inr e ↦
            let runs : r.outcome ≡ Running = at ∙ e in (
              record {
                outcome = subst (λ f. IsOutcome s who Go f r.outcome) (sym free) (subst (λ o. IsOutcome s who Go None o) (sym runs) e);
                job = subst (λ o. r.called ≡ called_in s who Go o) (sym runs) calls;
              },
              subst (λ o. s' ≡ after s who Go o) (sym runs) left,
            )
      ]

  -- a step that finds no memory
  goes_without : (s s' : State T J) (who : ℕ) (phase : Phase) (r : Report) → (place s who).registered ≡ true → (place s who).phase ≡ phase → event_fault Go phase (place s who) ≡ None
      → needs_memory Go phase ≡ true → s.room ≡ 0 → r ≡ record { called = None; outcome = Refused F.Memory } → s' ≡ in_phase s who Idle → Goes s s' who r
  goes_without s s' who phase r reg is none needs full at st =
      let free = no_fault s who phase reg is none in
      let needed : needs_memory Go (place s who).phase ≡ true = subst (λ ph. needs_memory Go ph ≡ true) (sym is) needs in
      subst (λ x. Goes s s' who x) (sym at) (
        record { outcome = subst (λ f. IsOutcome s who Go f (Refused F.Memory)) (sym free) (needed, full); job = refl },
        subst (λ b. s' ≡ (if b then in_phase s who Idle else s)) (sym needed) st,
      )

  -- a step that calls no job and changes its place alone
  pub goes_to : (s s' : State T J) (who : ℕ) (phase : Phase) (p : Participant J) (o : Outcome) (r : Report) → (place s who).registered ≡ true → (place s who).phase ≡ phase → who < length s.table
      → event_fault Go phase (place s who) ≡ None → None ≡ called_by s.store phase (place s who).hand → gone s who phase ≡ with_place s who p
      → o ≡ outcome_at p.phase → s' ≡ with_place s who p → r ≡ record { called = None; outcome = o } → Goes s s' who r
  goes_to s s' who phase p o r reg is lt none quiet to on st at =
      let there : place (gone s who phase) who ≡ p = ap (λ (x : State T J). place x who) to ∙ get_or-set_same s.table who p blank lt in
      goes s s' who phase r reg is none (ap (λ (x : Report). x.outcome) at ∙ on ∙ ap (λ (x : Participant J). outcome_at x.phase) (sym there)) (ap (λ (x : Report). x.called) at ∙ quiet) (st ∙ sym to)

  -- a step that queues a bag
  pub goes_queueing : (s s' t : State T J) (who : ℕ) (phase : Phase) (p : Participant J) (o : Outcome) (r : Report) → (place s who).registered ≡ true → (place s who).phase ≡ phase
      → event_fault Go phase (place s who) ≡ None → None ≡ called_by s.store phase (place s who).hand → needs_memory Go phase ≡ true → gone s who phase ≡ t → place t who ≡ p
      → (o ≡ outcome_at p.phase) ⊎ (o ≡ Refused F.Memory) → (o ≡ outcome_at p.phase → s' ≡ t) → (o ≡ Refused F.Memory → (s.room ≡ 0) × (s' ≡ in_phase s who Idle)) → r ≡ record { called = None; outcome = o } → Goes s s' who r
  goes_queueing s s' t who phase p o r reg is none quiet needs to there either st full at = elim either [
    | inl on ↦ goes s s' who phase r reg is none (ap (λ (x : Report). x.outcome) at ∙ on ∙ ap (λ (x : Participant J). outcome_at x.phase) (sym (ap (λ (x : State T J). place x who) to ∙ there))) (ap (λ (x : Report). x.called) at ∙ quiet) (st on ∙ sym to)
    | inr lack ↦ goes_without s s' who phase r reg is none needs (full lack).0 (at ∙ ap (λ (x : Outcome). record { called = None; outcome = x }) lack) (full lack).1
  ]
