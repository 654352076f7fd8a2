-- What a call leaves at its end: nothing that it held, and nothing written down.
use Rattle.std.proofs.Common.{◌≡◌, ◌≢◌, ◌==◌, ◌<◌, ℕ, zero, suc, Bool, true, false, List, [], ◌∷◌, length, refl, sym, ◌∙◌, ap, subst, inl, inr}
use Rattle.std.specs.Prelude.{Option, None, Some, replicate, slice_get, if◌then◌else◌}
use Rattle.std.proofs.Math.ListN.{set}
use Rattle.std.proofs.lemmas.List.{get_or-set_other}
use Rattle.std.proofs.lemmas.Bool.{cases_Bool, eqb-true, eqb-false, false≢true}
use Rattle.std.proofs.lemmas.Option.{slice_get_within}
use Rattle.crossbeam_epoch.specs.declared.fault.Fault.{Fault}
use Rattle.crossbeam_epoch.specs.declared.world.participant.Participant.{Participant}
use Rattle.congee.specs.declared.protocol.machine.Machine.{Machine}
use Rattle.congee.specs.declared.protocol.op.Op.{Op as Point}
use Rattle.congee.specs.declared.protocol.phase.Phase.{Phase}
use Rattle.congee.specs.declared.protocol.phase.Phase.TheVariants.{Ended}
use Rattle.congee.specs.protocol.Holdings.{LockedBy, MadeBy, TakenBy}
use Rattle.joint.specs.declared.engine.in_flight.InFlight.{InFlight}
use Rattle.joint.specs.declared.engine.in_flight.InFlight.TheVariants.{Idle, Collecting, Reserving, Securing, Walking}
use Rattle.joint.specs.declared.id.Id.{Id}
use Rattle.joint.specs.declared.engine.request.Request.{Request}
use Rattle.joint.specs.declared.steps.Event.{Event}
use Rattle.joint.specs.declared.steps.Event.TheVariants.{Register, Begin, Go}
use Rattle.joint.specs.declared.steps.Op.{Op}
use Rattle.joint.specs.declared.steps.Outcome.TheVariants.{Refused}
use Rattle.joint.specs.declared.steps.Report.{Report}
use Rattle.joint.specs.declared.steps.Step.{Step}
use Rattle.joint.specs.calls.Ends.{IsBetween, LeavesBetween, LeavesAll, AllEndWell, IdleUnasked}
use Rattle.joint.specs.engine.Intact.{IsAt}
use Rattle.joint.specs.engine.Log.{asked, opened_log, request_at}
use Rattle.joint.specs.Refusals.{of_fault}
use Rattle.joint.specs.calls.Runs.{Taken, AreTaken, after_all}
use Rattle.joint.specs.nodes.View.{id_number}
use Rattle.joint.specs.world.World.{Holds, IsStep, StepsUnless, finds_journal_full, answered_request, requests_after}
use Rattle.joint.specs.engine.Engine.{World, IsOfCall, Does, engine_of, is_busy, misuse, place_of}
use Rattle.joint.specs.Reports.{is_in_flight}
use Rattle.joint.proofs.lemmas.engine.OneCallChanges.{Apart, one_set, step_apart}
use Rattle.joint.proofs.lemmas.engine.Collecting.{get_inside}
use Rattle.joint.proofs.lemmas.engine.Entering.{begin_idle}
use Rattle.joint.proofs.lemmas.engine.Reported.{may_go}
use Rattle.joint.proofs.lemmas.engine.Reserving.{reserving_call}
use Rattle.congee.proofs.Laws.{both_true}

-- where no call is in flight the worker's machine has ended
pub ended_by : {V : Type 0} (k : InFlight V) (p : Participant (Unit {0})) (m : Machine Id V) → is_busy (Some k) ≡ false → IsAt k p m → m.phase ≡ Ended
ended_by Idle p m e a = a.1
ended_by (Collecting op) p m e a = absurd (false≢true (sym e))
ended_by (Reserving op) p m e a = absurd (false≢true (sym e))
ended_by (Securing op) p m e a = absurd (false≢true (sym e))
ended_by Walking p m e a = absurd (false≢true (sym e))

module _ {V : Type 0} (same : V → V → Bool) (always : Bool) where
  -- the machine of a worker that has no call in flight has ended
  pub rests : (s : World V) (w : ℕ) → Holds same always s → is_busy (slice_get s.calls w) ≡ false → (m : Machine Id V) → slice_get s.machines w ≡ Some m → m.phase ≡ Ended
  rests s w h e m at =
      let l : w < length s.calls = subst (λ n. w < n) h.0.machines (slice_get_within s.machines w m at) in
      let k = get_inside s.calls w l in
      ended_by k.0 (place_of s w) m (sym (ap is_busy k.1) ∙ e) (h.0.each w k.0 m k.1 at)

  -- a worker without a call in flight holds no lock, and has no node made or taken out
  pub between : (s : World V) (w : ℕ) → Holds same always s → is_busy (slice_get s.calls w) ≡ false → IsBetween s w
  between s w h e = record {
    idle = e;
    unlocked = λ n x. let P : Phase Id V → Type 0 = λ p. LockedBy id_number p n in subst P (rests s w h e x.0 x.1) x.2;
    unmade = λ n x. let P : Phase Id V → Type 0 = λ p. MadeBy id_number p n in subst P (rests s w h e x.0 x.1) x.2;
    unowed = λ n x. let P : Phase Id V → Type 0 = λ p. TakenBy id_number p n in subst P (rests s w h e x.0 x.1) x.2;
  }

  step_between : (s : World V) (t : Taken V) → IsStep same always s t.step t.report t.after → LeavesBetween s t
  step_between s t x c n e = between t.after t.step.worker x.holds (x.flight c n ∙ e)

  -- a writing call that finds no place isn't misused
  unmisused : (s : World V) (w : ℕ) → Holds same always s → (event : Event V) (f : Fault) → finds_journal_full s w event ≡ true → misuse s w event ≡ Some f → ⊥
  unmisused s w h Register f g e = false≢true g
  unmisused s w h (Begin op) f g e = false≢true g
  unmisused s w h (Go noise) f g e =
      let k : (op : Point V) × (slice_get s.calls w ≡ Some (Reserving op)) = reserving_call (slice_get s.calls w) (both_true _ _ g).0 in
      let n : misuse s w (Go noise) ≡ None = may_go same always s w (h.0, h.1) noise (ap is_busy k.1) in
      let q : None ≡ Some f = sym n ∙ e in cc

  step_misused : (s : World V) (t : Taken V) → Holds same always s → IsStep same always s t.step t.report t.after → LeavesAll s t
  step_misused s t h x f e = by (finds_journal_full s t.step.worker t.step.event) refl x.does where
    by : (b : Bool) → finds_journal_full s t.step.worker t.step.event ≡ b → StepsUnless same always b s t.step t.report t.after
        → (t.report.outcome ≡ Refused (of_fault f)) × (t.after.forest ≡ s.forest) × (t.after.machines ≡ s.machines) × (t.after.calls ≡ s.calls)
    by true g y = absurd (unmisused s t.step.worker h t.step.event f g e)
    by false g y =
        let P : Option Fault → Type 0 = λ o. Does same always (engine_of s) t.step.worker t.step.event o y.told (engine_of t.after) in
        let d : Does same always (engine_of s) t.step.worker t.step.event (Some f) y.told (engine_of t.after) = subst P e y.engine.does in
        (ap (λ z. z.outcome) y.report ∙ ap (λ z. z.outcome) d.0, ap (λ z. z.forest) d.1, ap (λ z. z.machines) d.1, ap (λ z. z.calls) d.1)

  -- each step of a run after which a call is over leaves its worker so, and a misused one leaves all
  pub all_end_well : (s : World V) (ts : List (Taken V)) → Holds same always s → AreTaken same always s ts → AllEndWell s ts
  all_end_well s [] h x = tt
  all_end_well s (t ∷ ts) h x = ((step_between s t x.0, step_misused s t h x.0), all_end_well t.after ts x.0.holds x.1)

-- nothing stands in a worker's place after it was cleared
none_set : {V : Type 0} (qs : List (Option (Request V))) (w : ℕ) → request_at (set qs w None) w ≡ None
none_set [] w = refl
none_set (q ∷ qs) zero = refl
none_set (q ∷ qs) (suc w) = none_set qs w

none_left : {V : Type 0} (n w : ℕ) → request_at {V = V} (replicate n None) w ≡ None
none_left zero w = refl
none_left (suc n) zero = refl
none_left (suc n) (suc w) = none_left n w

module _ {V : Type 0} (same : V → V → Bool) (always : Bool) (yes : always ≡ true) (s s' : World V) (h : Holds same always s) (before : IdleUnasked s) where
  apart_none : (w : ℕ) (o : Option (Request V)) (i : ℕ) → i ≢ w → request_at s.log.requests i ≡ None → request_at (set s.log.requests w o) i ≡ None
  apart_none w o i n e = get_or-set_other s.log.requests w i o None n ∙ e

  begin_apart : (w : ℕ) (o : Option (Request V)) (on : Bool) (i : ℕ) → i ≢ w → request_at s.log.requests i ≡ None → request_at (if on then set s.log.requests w o else s.log.requests) i ≡ None
  begin_apart w o true i n e = apart_none w o i n e
  begin_apart w o false i n e = e

  apart_after : (w : ℕ) (event : Event V) (on : Bool) (i : ℕ) → i ≢ w → request_at s.log.requests i ≡ None → request_at (requests_after s w event on) i ≡ None
  apart_after w Register on i n e = e
  apart_after w (Begin op) on i n e = begin_apart w (asked op) on i n e
  apart_after w (Go noise) on i n e = apart_none w _ i n e

  module _ (w : ℕ) (told : Report V) (idle : is_busy (slice_get s'.calls w) ≡ false) where
    -- a step of the worker that leaves it idle doesn't leave its call in flight
    off : (event : Event V) → IsOfCall event → (o : Option Fault) → misuse s w event ≡ o → Does same always (engine_of s) w event o told (engine_of s') → (misuse s w event ≡ None → is_busy (slice_get s'.calls w) ≡ is_in_flight told.outcome) → is_in_flight told.outcome ≡ false
    off event c None e d flight = sym (flight e) ∙ idle
    off event c (Some f) e d flight = ap (λ y. is_in_flight y.outcome) d.0

    -- and it had none before a step that begins none
    was_idle : (op : Op V) (o : Option Fault) → misuse s w (Begin op) ≡ o → Does same always (engine_of s) w (Begin op) o told (engine_of s') → is_busy (slice_get s.calls w) ≡ false
    was_idle op None e d = begin_idle same always (engine_of s) (engine_of s') w (h.0, h.1) op e
    was_idle op (Some f) e d = sym (ap (λ y. is_busy (slice_get y.calls w)) d.1) ∙ idle

    registered_idle : (o : Option Fault) → misuse s w Register ≡ o → Does same always (engine_of s) w Register o told (engine_of s') → is_busy (slice_get s.calls w) ≡ false
    registered_idle None e (inl d) = sym (ap (λ y. is_busy (slice_get y.calls w)) d.1.state) ∙ idle
    registered_idle None e (inr d) = sym (ap (λ y. is_busy (slice_get y.calls w)) d.state) ∙ idle
    registered_idle (Some f) e d = sym (ap (λ y. is_busy (slice_get y.calls w)) d.1) ∙ idle

    here_after : (event : Event V) → Does same always (engine_of s) w event (misuse s w event) told (engine_of s') → (IsOfCall event → misuse s w event ≡ None → is_busy (slice_get s'.calls w) ≡ is_in_flight told.outcome)
        → request_at (requests_after s w event (is_in_flight told.outcome)) w ≡ None
    here_after Register d flight = before w (registered_idle (misuse s w Register) refl d)
    here_after (Begin op) d flight =
        let P : Bool → Type 0 = λ on. request_at (if on then set s.log.requests w (asked op) else s.log.requests) w ≡ None in
        subst P (sym (off (Begin op) tt (misuse s w (Begin op)) refl d (flight tt))) (before w (was_idle op (misuse s w (Begin op)) refl d))
    here_after (Go noise) d flight =
        let P : Bool → Type 0 = λ on. request_at (set s.log.requests w (if on then answered_request s w (Go noise) else None)) w ≡ None in
        subst P (sym (off (Go noise) tt (misuse s w (Go noise)) refl d (flight tt))) (none_set s.log.requests w)

  unasked_after : (step : Step V) (r : Report V) (b : Bool) → StepsUnless same always b s step r s' → IdleUnasked s'
  unasked_after step r true x i idle = elim (cases_Bool (i == step.worker)) [
    | inl b ↦ (
        let P : ℕ → Type 0 = λ j. request_at (set s.log.requests step.worker None) j ≡ None in
        ap (λ (y : World V). request_at y.log.requests i) x.state ∙ subst P (sym (eqb-true i step.worker b)) (none_set s.log.requests step.worker))
    | inr b ↦ (
        let n : i ≢ step.worker = eqb-false i step.worker b in
        let was : is_busy (slice_get s.calls i) ≡ false = sym (ap is_busy (ap (λ (y : World V). slice_get y.calls i) x.state ∙ (one_set s.calls (set s.calls step.worker Idle) step.worker Idle refl).other i n)) ∙ idle in
        ap (λ (y : World V). request_at y.log.requests i) x.state ∙ get_or-set_other s.log.requests step.worker i None None n ∙ before i was)
  ]
  unasked_after step r false x i idle = ap (λ qs. request_at qs i) (x.requests yes) ∙ (
      let ap_here : Apart (engine_of s) (engine_of s') step.worker = step_apart same always (engine_of s) (engine_of s') step.worker (h.0, h.1) step.event (misuse s step.worker step.event) x.told x.engine.does in
      elim (cases_Bool (i == step.worker)) [
        | inl b ↦ (
            let e : i ≡ step.worker = eqb-true i step.worker b in
            let P : ℕ → Type 0 = λ j. request_at (requests_after s step.worker step.event (is_in_flight x.told.outcome)) j ≡ None in
            let Q : ℕ → Type 0 = λ j. is_busy (slice_get s'.calls j) ≡ false in
            subst P (sym e) (here_after step.worker x.told (subst Q e idle) step.event x.engine.does x.engine.flight))
        | inr b ↦ (
            let n : i ≢ step.worker = eqb-false i step.worker b in
            apart_after step.worker step.event (is_in_flight x.told.outcome) i n (before i (sym (ap is_busy (ap_here.calls.other i n)) ∙ idle)))
      ])

  step_unasked : (step : Step V) (r : Report V) → IsStep same always s step r s' → IdleUnasked s'
  step_unasked step r x = unasked_after step r (finds_journal_full s step.worker step.event) x.does

module _ {V : Type 0} (same : V → V → Bool) (always : Bool) (yes : always ≡ true) where
  -- after a run too nothing is written down as asked of a worker without a call in flight
  pub all_unasked : (s : World V) (ts : List (Taken V)) → Holds same always s → AreTaken same always s ts → IdleUnasked s → IdleUnasked (after_all s ts)
  all_unasked s [] h x u = u
  all_unasked s (t ∷ ts) h x u = all_unasked t.after ts x.0.holds x.1 (step_unasked same always yes s t.after h u t.step t.report x.0)

-- an index as it opens has nothing written down
pub opens_unasked : {V : Type 0} (s : World V) (workers places : ℕ) → s.log ≡ opened_log workers places → IdleUnasked s
opens_unasked {V} s workers places e i idle = ap (λ l. request_at l.requests i) e ∙ none_left {V = V} workers i
