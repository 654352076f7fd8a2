-- Any step, and so any list of steps, keeps what ties a history to its state.
use Rattle.std.proofs.Common.{◌≡◌, ℕ, zero, suc, ◌+◌, ◌-◌, ◌<◌, ◌≤◌, Bool, true, false, List, [], ◌∷◌, ◌++◌, ◌==◌, Option, Some, None, refl, sym, ◌∙◌, ap, subst, inl, inr, length, arith, replicate, get_or, take}
use Rattle.std.specs.Prelude.{if◌then◌else◌, is_none, is_some, nat_le}
use Rattle.std.specs.List.{sum_by}
use Rattle.std.proofs.lemmas.Bool.{cases_lt}
use Rattle.std.proofs.lemmas.Bool.Decides.{nat_tests}
use Rattle.std.proofs.lemmas.List.{set-get_or, get_or_past, set_past, length-replicate, get_or-replicate, take_more, length-take-le}
use Rattle.crossbeam_epoch.specs.declared.bag.Deferral.{Deferral}
use Rattle.crossbeam_epoch.specs.declared.bag.Work.{Work}
use Rattle.crossbeam_epoch.specs.declared.limits.Limits.{Limits}
use Rattle.crossbeam_epoch.specs.declared.names.Name.{Name}
use Rattle.crossbeam_epoch.specs.declared.names.Ptr.{Ptr}
use Rattle.crossbeam_epoch.specs.declared.world.participant.Participant.{Participant}
use Rattle.crossbeam_epoch.specs.declared.world.participant.Phase.{Phase}
use Rattle.crossbeam_epoch.specs.declared.world.participant.Phase.TheVariants.{Idle, Look, Publish, RepinLook, RepinPublish, Seal, Queue, ReleaseSeal, ReleaseQueue, Secure, SecureSeal, SecureQueue, Load, Inspect, Advance, Take, Call}
use Rattle.crossbeam_epoch.specs.declared.world.report.Op.{Op}
use Rattle.crossbeam_epoch.specs.declared.world.report.Op.TheVariants as O
use Rattle.crossbeam_epoch.specs.declared.world.report.Event.{Event}
use Rattle.crossbeam_epoch.specs.declared.world.report.Event.TheVariants.{Begin, Go}
use Rattle.crossbeam_epoch.specs.declared.world.report.Step.{Step}
use Rattle.crossbeam_epoch.specs.declared.fault.Fault.{Fault}
use Rattle.crossbeam_epoch.specs.declared.fault.Fault.TheVariants as F
use Rattle.crossbeam_epoch.specs.declared.world.report.Outcome.{Outcome}
use Rattle.crossbeam_epoch.specs.declared.world.report.Outcome.TheVariants.{Running, Done, Refused}
use Rattle.crossbeam_epoch.specs.declared.world.report.Report.{Report}
use Rattle.crossbeam_epoch.specs.world.History.{Mark, Unpinned, Deferred}
use Rattle.crossbeam_epoch.specs.world.Machine.{State, place, blank, with_place, in_phase, opened, registered, with_store, with_roots, name_of, after_deferral}
use Rattle.crossbeam_epoch.specs.world.Steps.{quiet_fault, or_count, defer_fault, when, outcome_at, outcome_or, place_or, begin_fault, event_fault, fault, begun_at, begun, gone, moved, needs_memory, after, called_by, called_in, IsOutcome, IsReport, begin_marks, phase_marks, moved_marks, unless_refused, marks, state_after, history_after, AreReports}
use Rattle.crossbeam_epoch.specs.world.Fits.{Fits, HandFits, at_place, has_ticket, one}
use Rattle.crossbeam_epoch.proofs.lemmas.world.Moves.{fits_stay, fits_phase, fits_guards, fits_idle, fits_look, fits_relooked, fits_repinned, fits_seal, fits_release_seal, fits_secure_seal, fits_secured, fits_load, fits_inspected, fits_advanced, fits_published, fits_unpinned, fits_queued, fits_left, fits_gone, fits_took, unpinned_now, pinned_now, none_in, none_accepted}
use Rattle.crossbeam_epoch.proofs.lemmas.world.Jobs.{fits_called, call_marks, fits_after_deferral, no_items}

-- a test of a fault that isn't given
pub off : (b : Bool) (f : Fault) → when b f ≡ None → b ≡ false
off true f e = absurd (cc e)
off false f e = refl

word_some : (w : Option ℕ) → is_none w ≡ false → (x : ℕ) × (w ≡ Some x)
word_some None e = absurd (cc e)
word_some (Some x) e = (x, refl)

-- a word that is seen to be none is none
pub word_none : (w : Option ℕ) → is_none w ≡ true → w ≡ None
word_none None e = refl
word_none (Some x) e = absurd (cc e)

-- a word that isn't seen to be some is none
pub not_some : (w : Option ℕ) → is_some w ≡ false → w ≡ None
not_some None e = refl
not_some (Some x) e = absurd (cc e)

-- where there is no fault, the participant is known and has none further
pub known_if_faultless : (b : Bool) (x : Option Fault) → (if b then x else Some F.Unknown) ≡ None → (b ≡ true) × (x ≡ None)
known_if_faultless true x e = (refl, e)
known_if_faultless false x e = absurd (cc e)

-- where there is a next ticket, an answer without a fault had none
pub no_quiet : (next : ℕ) (q : Option Fault) → or_count next q ≡ None → q ≡ None
no_quiet next None e = refl
no_quiet next (Some f) e = absurd (cc e)

module _ {J : Type 0} where
  -- a call that may find no memory has no job in hand
  pub empty_hand : (event : Event) (phase : Phase) (hand : List (Deferral J)) → needs_memory event phase ≡ true → HandFits phase hand → hand ≡ []
  empty_hand (Begin op) phase hand e fits = absurd (cc e)
  empty_hand Go (Queue seal) hand e fits = fits
  empty_hand Go (ReleaseQueue seal) hand e fits = fits
  empty_hand Go (SecureQueue seal) hand e fits = fits
  empty_hand Go Idle hand e fits = absurd (cc e)
  empty_hand Go Look hand e fits = absurd (cc e)
  empty_hand Go (Publish seen) hand e fits = absurd (cc e)
  empty_hand Go RepinLook hand e fits = absurd (cc e)
  empty_hand Go (RepinPublish seen) hand e fits = absurd (cc e)
  empty_hand Go Seal hand e fits = absurd (cc e)
  empty_hand Go ReleaseSeal hand e fits = absurd (cc e)
  empty_hand Go (Secure n) hand e fits = absurd (cc e)
  empty_hand Go SecureSeal hand e fits = absurd (cc e)
  empty_hand Go Load hand e fits = absurd (cc e)
  empty_hand Go (Inspect seen at) hand e fits = absurd (cc e)
  empty_hand Go (Advance seen) hand e fits = absurd (cc e)
  empty_hand Go (Take answered bags) hand e fits = absurd (cc e)
  empty_hand Go (Call answered bags seal) hand e fits = absurd (cc e)

  -- a call begins only between calls
  pub begin_idle : (op : Op) (phase : Phase) (p : Participant J) → event_fault (Begin op) phase p ≡ None → phase ≡ Idle
  begin_idle op Idle p e = refl
  begin_idle op Look p e = absurd (cc e)
  begin_idle op (Publish seen) p e = absurd (cc e)
  begin_idle op RepinLook p e = absurd (cc e)
  begin_idle op (RepinPublish seen) p e = absurd (cc e)
  begin_idle op Seal p e = absurd (cc e)
  begin_idle op (Queue seal) p e = absurd (cc e)
  begin_idle op ReleaseSeal p e = absurd (cc e)
  begin_idle op (ReleaseQueue seal) p e = absurd (cc e)
  begin_idle op (Secure n) p e = absurd (cc e)
  begin_idle op SecureSeal p e = absurd (cc e)
  begin_idle op (SecureQueue seal) p e = absurd (cc e)
  begin_idle op Load p e = absurd (cc e)
  begin_idle op (Inspect seen at) p e = absurd (cc e)
  begin_idle op (Advance seen) p e = absurd (cc e)
  begin_idle op (Take answered bags) p e = absurd (cc e)
  begin_idle op (Call answered bags seal) p e = absurd (cc e)

  -- the places of a new collector
  pub blank_at : (n q : ℕ) → get_or (replicate n (blank {J = J})) q blank ≡ blank
  blank_at n q = elim (cases_lt q n) [ inl lt ↦ get_or-replicate n q blank blank lt | inr ge ↦ get_or_past (replicate n blank) q blank (rw length-replicate ge) ]

  -- blank places have no jobs, whatever each would weigh
  pub blanks_weigh_none : (w : Deferral J → ℕ) (n : ℕ) → sum_by (at_place w) (replicate n blank) ≡ 0
  blanks_weigh_none w zero = refl
  blanks_weigh_none w (suc n) = blanks_weigh_none w n

  quiet_idle : (phase : Phase) (p : Participant J) → quiet_fault phase p ≡ None → phase ≡ Idle
  quiet_idle Idle p e = refl
  quiet_idle Look p e = absurd (cc e)
  quiet_idle (Publish seen) p e = absurd (cc e)
  quiet_idle RepinLook p e = absurd (cc e)
  quiet_idle (RepinPublish seen) p e = absurd (cc e)
  quiet_idle Seal p e = absurd (cc e)
  quiet_idle (Queue seal) p e = absurd (cc e)
  quiet_idle ReleaseSeal p e = absurd (cc e)
  quiet_idle (ReleaseQueue seal) p e = absurd (cc e)
  quiet_idle (Secure n) p e = absurd (cc e)
  quiet_idle SecureSeal p e = absurd (cc e)
  quiet_idle (SecureQueue seal) p e = absurd (cc e)
  quiet_idle Load p e = absurd (cc e)
  quiet_idle (Inspect seen at) p e = absurd (cc e)
  quiet_idle (Advance seen) p e = absurd (cc e)
  quiet_idle (Take answered bags) p e = absurd (cc e)
  quiet_idle (Call answered bags seal) p e = absurd (cc e)

module _ {T J : Type 0} where
  -- who is registered has a place
  pub in_table : (s : State T J) (who : ℕ) → (place s who).registered ≡ true → who < length s.table
  in_table s who is = elim (cases_lt who (length s.table)) [
    | inl lt ↦ lt
    | inr ge ↦ absurd (cc (ap (λ (p : Participant J). p.registered) (get_or_past s.table who blank ge), is))
  ]

  -- a call that found no memory
  by_needs : (h : List Mark) (s : State T J) (who : ℕ) (event : Event) (b : Bool) → needs_memory event (place s who).phase ≡ b → Fits h s → Fits h (if b then in_phase s who Idle else s)
  by_needs h s who event false is f = f
  by_needs h s who event true is f = elim (cases_lt who (length s.table)) [
    | inl lt ↦ fits_idle h s who lt (empty_hand event (place s who).phase (place s who).hand is (f.places who).spare) f
    | inr ge ↦ rw (set_past s.table who (record (place s who) { phase = Idle }) ge) f
  ]

  refused_any : (h : List Mark) (s : State T J) (who : ℕ) (event : Event) (e : Fault) → Fits h s → Fits h (after s who event (Refused e))
  refused_any h s who event F.TableFull f = f
  refused_any h s who event F.CellsFull f = f
  refused_any h s who event F.Memory f = by_needs h s who event (needs_memory event (place s who).phase) refl f
  refused_any h s who event F.Unpinned f = f
  refused_any h s who event F.Busy f = f
  refused_any h s who event F.Count f = f
  refused_any h s who event F.GuardOut f = f
  refused_any h s who event (F.Registered n) f = f
  refused_any h s who event F.Unknown f = f
  refused_any h s who event F.Foreign f = f
  refused_any h s who event F.Idle f = f
  refused_any h s who event F.Limits f = f
  refused_any h s who event F.InCall f = f

  -- what a begin leaves, by its outcome
  pub refused_begin : (s : State T J) (who : ℕ) (op : Op) (f : Fault) → after s who (Begin op) (Refused f) ≡ s
  refused_begin s who op F.TableFull = refl
  refused_begin s who op F.CellsFull = refl
  refused_begin s who op F.Memory = refl
  refused_begin s who op F.Unpinned = refl
  refused_begin s who op F.Busy = refl
  refused_begin s who op F.Count = refl
  refused_begin s who op F.GuardOut = refl
  refused_begin s who op (F.Registered n) = refl
  refused_begin s who op F.Unknown = refl
  refused_begin s who op F.Foreign = refl
  refused_begin s who op F.Idle = refl
  refused_begin s who op F.Limits = refl
  refused_begin s who op F.InCall = refl

  running_begin : (s : State T J) (who : ℕ) (op : Op) (phase : Phase) → after s who (Begin op) (outcome_at phase) ≡ begun s who op
  running_begin s who op Idle = refl
  running_begin s who op Look = refl
  running_begin s who op (Publish seen) = refl
  running_begin s who op RepinLook = refl
  running_begin s who op (RepinPublish seen) = refl
  running_begin s who op Seal = refl
  running_begin s who op (Queue seal) = refl
  running_begin s who op ReleaseSeal = refl
  running_begin s who op (ReleaseQueue seal) = refl
  running_begin s who op (Secure n) = refl
  running_begin s who op SecureSeal = refl
  running_begin s who op (SecureQueue seal) = refl
  running_begin s who op Load = refl
  running_begin s who op (Inspect seen at) = refl
  running_begin s who op (Advance seen) = refl
  running_begin s who op (Take answered bags) = refl
  running_begin s who op (Call answered bags seal) = refl

  -- after a begin the place is as the call begins, or as it was where there is a fault
  pub begin_after : (s : State T J) (who : ℕ) (op : Op) (fault : Option Fault)
      → after s who (Begin op) (outcome_or fault (begun_at op (place s who))) ≡ with_place s who (place_or fault (begun_at op (place s who)) (place s who))
  begin_after s who op (Some f) = refused_begin s who op f ∙ sym (ap (λ t. record s { table = t }) (set-get_or s.table who blank))
  begin_after s who op None = running_begin s who op (begun_at op (place s who)).phase

  -- a call that goes on
  fits_going : (h : List Mark) (s : State T J) (who : ℕ) (phase : Phase) → who < length s.table → (place s who).phase ≡ phase → Fits h s
      → Fits (phase_marks s.epoch who phase (called_by s.store phase (place s who).hand) h) (gone s who phase)
  fits_going h s who Idle lt is f = f
  fits_going h s who Look lt is f = fits_look h s who lt is f
  fits_going h s who (Publish seen) lt is f = fits_published h s who seen lt is f
  fits_going h s who RepinLook lt is f = fits_relooked h s who lt is f
  fits_going h s who (RepinPublish seen) lt is f = fits_repinned h s who seen lt is f
  fits_going h s who Seal lt is f = fits_seal h s who lt is f
  fits_going h s who (Queue seal) lt is f = let i = rw is at (f.places who).phase in fits_queued h s who seal Load lt (rw is at (f.places who).spare) i.1 i.0 f
  fits_going h s who ReleaseSeal lt is f = fits_release_seal h s who lt is f
  fits_going h s who (ReleaseQueue seal) lt is f = let i = rw is at (f.places who).phase in fits_left h s who seal lt (rw is at (f.places who).spare) i.0 i.1 f
  fits_going h s who (Secure n) lt is f = fits_secured h s who n lt is f
  fits_going h s who SecureSeal lt is f = fits_secure_seal h s who lt is f
  fits_going h s who (SecureQueue seal) lt is f = fits_queued h s who seal Idle lt (rw is at (f.places who).spare) (rw is at (f.places who).phase) tt f
  fits_going h s who Load lt is f = fits_load h s who lt is f
  fits_going h s who (Inspect seen at) lt is f = fits_inspected h s who seen at lt is f
  fits_going h s who (Advance seen) lt is f = fits_advanced h s who seen lt is f
  fits_going h s who (Take answered bags) lt is f = fits_took h s who answered bags lt is f
  fits_going h s who (Call answered bags seal) lt is f =
      subst (λ g. Fits g (gone s who (Call answered bags seal))) (same (called_by s.store (Call answered bags seal) (place s who).hand)) (fits_called h s who answered bags seal lt is f)
    where
      same : (c : Option (ℕ × Option Name)) → call_marks c h ≡ phase_marks s.epoch who (Call answered bags seal) c h
      same None = refl
      same (Some c) = refl

  begun_pin : (h : List Mark) (s : State T J) (who : ℕ) (b : Bool) → who < length s.table → (place s who).hand ≡ [] → is_none (place s who).word ≡ b → Fits h s
      → Fits h (with_place s who (if b then record (place s who) { phase = Look } else record (place s who) { guards = (place s who).guards + 1 }))
  begun_pin h s who true lt none is f = fits_phase h s who Look lt f none (unpinned_now h s who f (word_none (place s who).word is))
  begun_pin h s who false lt none is f = fits_guards h s who ((place s who).guards + 1) lt f

  begun_unpin : (h : List Mark) (s : State T J) (who : ℕ) (b : Bool) → who < length s.table → (place s who).phase ≡ Idle → Fits h s
      → Fits (if b then Unpinned who ∷ h else h) (with_place s who (if b then record (place s who) { word = None; guards = 0 } else record (place s who) { guards = (place s who).guards - 1 }))
  begun_unpin h s who true lt is f = fits_unpinned h s who lt is f
  begun_unpin h s who false lt is f = fits_guards h s who ((place s who).guards - 1) lt f

  begun_repin : (h : List Mark) (s : State T J) (who : ℕ) (b : Bool) → who < length s.table → (place s who).hand ≡ [] → Fits h s → Fits h (in_phase s who (if b then RepinLook else Idle))
  begun_repin h s who true lt none f = fits_phase h s who RepinLook lt f none tt
  begun_repin h s who false lt none f = fits_idle h s who lt none f

  begun_flush : (h : List Mark) (s : State T J) (who x : ℕ) (b : Bool) → who < length s.table → (place s who).hand ≡ [] → (place s who).word ≡ Some x → Fits h s → Fits h (in_phase s who (if b then Load else Seal))
  begun_flush h s who x true lt none is f = fits_phase h s who Load lt f none (pinned_now h s who x f is)
  begun_flush h s who x false lt none is f = fits_phase h s who Seal lt f none (pinned_now h s who x f is)

  begun_release : (h : List Mark) (s : State T J) (who : ℕ) (b : Bool) → who < length s.table → (place s who).hand ≡ [] → (length (place s who).bag == 0) ≡ b → (place s who).word ≡ None → Fits h s
      → Fits h (with_place s who (if b then blank else record (place s who) { phase = ReleaseSeal }))
  begun_release h s who true lt none empty is f = fits_gone h s who lt none (no_items (place s who).bag empty) (unpinned_now h s who f is) f
  begun_release h s who false lt none empty is f = fits_phase h s who ReleaseSeal lt f none (unpinned_now h s who f is)

  fits_begun : (h : List Mark) (s : State T J) (who : ℕ) (op : Op) → who < length s.table → (place s who).phase ≡ Idle → begin_fault op (place s who) ≡ None → Fits h s
      → Fits (begin_marks who (place s who) op h) (begun s who op)
  fits_begun h s who O.Pin lt is e f = begun_pin h s who (is_none (place s who).word) lt (rw is at (f.places who).spare) refl f
  fits_begun h s who O.Unpin lt is e f = begun_unpin h s who (nat_le (place s who).guards 1) lt is f
  fits_begun h s who O.Repin lt is e f = begun_repin h s who (nat_le (place s who).guards 1) lt (rw is at (f.places who).spare) f
  fits_begun h s who O.Flush lt is e f =
      let w = word_some (place s who).word (off (is_none (place s who).word) F.Unpinned e) in
      begun_flush h s who w.0 (length (place s who).bag == 0) lt (rw is at (f.places who).spare) w.1 f
  fits_begun h s who O.Release lt is e f =
      let w = not_some (place s who).word (off (is_some (place s who).word) F.GuardOut e) in
      begun_release h s who (length (place s who).bag == 0) lt (rw is at (f.places who).spare) refl w f
  fits_begun h s who (O.Secure n) lt is e f = fits_phase h s who (Secure n) lt f (rw is at (f.places who).spare) tt

  fits_moved : (h : List Mark) (s : State T J) (who : ℕ) (event : Event) → fault s who event ≡ None → Fits h s
      → Fits (moved_marks s who event (called_in s who event Running) h) (moved s who event)
  fits_moved h s who (Begin op) e f =
      let k = known_if_faultless (place s who).registered (event_fault (Begin op) (place s who).phase (place s who)) e in
      let idle = begin_idle op (place s who).phase (place s who) k.1 in
      fits_begun h s who op (in_table s who k.0) idle (rw idle at k.1) f
  fits_moved h s who Go e f =
      let k = known_if_faultless (place s who).registered (event_fault Go (place s who).phase (place s who)) e in
      fits_going h s who (place s who).phase (in_table s who k.0) refl f

  -- an end calls the jobs that a step on the way calls
  pub done_called : (s : State T J) (who : ℕ) (event : Event) → called_in s who event Running ≡ called_in s who event Done
  done_called s who (Begin op) = refl
  done_called s who Go = refl

  by_outcome : (h : List Mark) (s : State T J) (who : ℕ) (event : Event) (e : Option Fault) (outcome : Outcome) → fault s who event ≡ e → IsOutcome s who event e outcome → Fits h s
      → Fits (unless_refused outcome (moved_marks s who event (called_in s who event outcome) h) h) (after s who event outcome)
  by_outcome h s who event e (Refused x) is o f = refused_any h s who event x f
  by_outcome h s who event (Some x) Running is o f = absurd (cc o)
  by_outcome h s who event (Some x) Done is o f = absurd (cc o)
  by_outcome h s who event None Running is o f = fits_moved h s who event is f
  by_outcome h s who event None Done is o f = subst (λ c. Fits (moved_marks s who event c h) (moved s who event)) (done_called s who event) (fits_moved h s who event is f)

  -- one step
  pub fits_after : (h : List Mark) (s : State T J) (who : ℕ) (event : Event) (r : Report) → IsReport s who event r → Fits h s → Fits (marks s who event r h) (after s who event r.outcome)
  fits_after h s who event r is f =
      subst (λ c. Fits (unless_refused r.outcome (moved_marks s who event c h) h) (after s who event r.outcome)) (sym is.job)
      (by_outcome h s who event (fault s who event) r.outcome refl is.outcome f)

  -- a whole run
  pub fits_run : (h : List Mark) (s : State T J) (steps : List Step) (reports : List Report) → AreReports s steps reports → Fits h s → Fits (history_after s steps reports h) (state_after s steps reports)
  fits_run h s [] [] are f = f
  fits_run h s [] (r ∷ reports) are f = absurd are
  fits_run h s (step ∷ steps) [] are f = f
  fits_run h s (step ∷ steps) (r ∷ reports) are f =
      fits_run (marks s step.who step.event r h) (after s step.who step.event r.outcome) steps reports are.1 (fits_after h s step.who step.event r are.0 f)

  -- a run goes on by one step
  pub state_more : (s : State T J) (steps : List Step) (reports : List Report) (step : Step) (r : Report) → length steps ≡ length reports
      → state_after s (steps ++ step ∷ []) (reports ++ r ∷ []) ≡ after (state_after s steps reports) step.who step.event r.outcome
  state_more s [] [] step r e = refl
  state_more s [] (x ∷ reports) step r e = absurd (omega arith)
  state_more s (y ∷ steps) [] step r e = absurd (omega arith)
  state_more s (y ∷ steps) (x ∷ reports) step r e = state_more (after s y.who y.event x.outcome) steps reports step r (omega arith)

  -- reports that may be given of a run may be with one more that may be given of the next step
  pub legal_more : (s : State T J) (steps : List Step) (reports : List Report) (step : Step) (r : Report) → length steps ≡ length reports → AreReports s steps reports
      → IsReport (state_after s steps reports) step.who step.event r → AreReports s (steps ++ step ∷ []) (reports ++ r ∷ [])
  legal_more s [] [] step r e are is = (is, tt)
  legal_more s [] (x ∷ reports) step r e are is = absurd (omega arith)
  legal_more s (y ∷ steps) [] step r e are is = absurd (omega arith)
  legal_more s (y ∷ steps) (x ∷ reports) step r e are is = (are.0, legal_more (after s y.who y.event x.outcome) steps reports step r (omega arith) are.1 is)

  -- a run so far, with the report of its next step, is the run so far and that step
  pub run_more : (s : State T J) (all : List Step) (i : ℕ) (d : Step) (reports reports' : List Report) (r : Report) (now new : State T J) → i < length all → length reports ≡ i
      → AreReports s (take i all) reports → now ≡ state_after s (take i all) reports → IsReport now (get_or all i d).who (get_or all i d).event r → new ≡ after now (get_or all i d).who (get_or all i d).event r.outcome
      → reports' ≡ reports ++ r ∷ [] → AreReports s (take (i + 1) all) reports' × (new ≡ state_after s (take (i + 1) all) reports')
  run_more s all i d reports reports' r now new lt len are is report on more =
      let step = get_or all i d in
      let even : length (take i all) ≡ length reports = length-take-le i all (omega arith) ∙ sym len in
      let report' = rw is at report in (
        rw (take_more all i d lt, more) (legal_more s (take i all) reports step r even are report'),
        rw (take_more all i d lt, more, on, is) (sym (state_more s (take i all) reports step r even)),
      )

  -- the empty history fits a new collector
  pub fits_opened : (limits : Limits) (roots : ℕ) → 2 ≤ limits.expiry → Fits {T = T} {J = J} [] (opened limits roots)
  fits_opened limits roots le = record {
    graceful = tt;
    later = tt;
    wait = le;
    places = λ q. rw (blank_at limits.participants q) (record { bounds = tt; phase = tt; accepted = none_accepted [] 0; spare = refl });
    queued = λ b m. absurd (none_in b m);
    once = record {
      each = λ t. let e : sum_by (at_place (has_ticket t)) (replicate limits.participants (blank {J = J})) ≡ 0 = blanks_weigh_none (has_ticket t) limits.participants in omega arith;
      tickets = λ t. grind (arith, nat_tests);
      count = let e : sum_by (at_place one) (replicate limits.participants (blank {J = J})) ≡ 0 = blanks_weigh_none one limits.participants in omega arith;
    };
  }

  -- the history fits after a registration
  pub fits_registered : (h : List Mark) (s : State T J) (n : ℕ) → n < length s.table → Fits h s → Fits h (registered s n)
  fits_registered h s n lt f =
      let at = f.places n in
      fits_stay h s n (record (place s n) { registered = true; pins = 0 }) lt f (record { bounds = at.bounds; phase = at.phase; accepted = at.accepted; spare = at.spare }) refl refl

  -- the cells and roots change freely
  pub fits_store : (h : List Mark) (s s' : State T J) → s' ≡ with_store s s'.store → Fits h s → Fits h s'
  fits_store h s s' is f = rw is (record { graceful = f.graceful; later = f.later; wait = f.wait; places = f.places; queued = f.queued; once = record { each = f.once.each; tickets = f.once.tickets; count = f.once.count } })

  -- the history fits after the roots changed
  pub fits_roots : (h : List Mark) (s : State T J) (roots : List Ptr) → Fits h s → Fits h (with_roots s roots)
  fits_roots h s roots f = record { graceful = f.graceful; later = f.later; wait = f.wait; places = f.places; queued = f.queued; once = record { each = f.once.each; tickets = f.once.tickets; count = f.once.count } }

  -- who may defer a job has a place and no call in flight
  pub fits_deferring : (h : List Mark) (s : State T J) (who : ℕ) (work : Work J) → defer_fault s who ≡ None → Fits h s → Fits (Deferred s.next (name_of work) ∷ h) (after_deferral s who work)
  fits_deferring h s who work e f =
      let k = known_if_faultless (place s who).registered (or_count s.next (quiet_fault (place s who).phase (place s who))) e in
      let idle = quiet_idle (place s who).phase (place s who) (no_quiet s.next (quiet_fault (place s who).phase (place s who)) k.1) in
      fits_after_deferral h s who work (in_table s who k.0) idle f
