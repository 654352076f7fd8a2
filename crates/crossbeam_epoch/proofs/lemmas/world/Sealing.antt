-- No empty bag is queued, and no seal is past the epoch, whatever steps led there.
use Rattle.std.proofs.Common.{◌≡◌, ℕ, ◌+◌, ◌-◌, ◌<◌, ◌≤◌, Bool, true, false, List, [], ◌∷◌, ◌++◌, ◌==◌, ◌&&◌, Option, Some, None, refl, subst, inl, inr, length, arith, get_or-set_same, get_or-set_other}
use Rattle.std.specs.Prelude.{slice_index_or, if◌then◌else◌, nat_lt, nat_le, is_none, remove, slice_set, not}
use Rattle.std.specs.List.{Contains}
use Rattle.std.proofs.lemmas.Bool.{cases_eq, cases_lt}
use Rattle.std.proofs.lemmas.Bool.Decides.{nat_tests}
use Rattle.std.proofs.lemmas.List.{set_past}
use Rattle.std.proofs.lemmas.List.Elements.{Contains-push_cases}
use Rattle.crossbeam_epoch.specs.declared.bag.Deferral.{Deferral}
use Rattle.crossbeam_epoch.specs.declared.bag.Work.{Work}
use Rattle.crossbeam_epoch.specs.declared.fault.Fault.{Fault}
use Rattle.crossbeam_epoch.specs.declared.fault.Fault.TheVariants as F
use Rattle.crossbeam_epoch.specs.declared.limits.Limits.{Limits}
use Rattle.crossbeam_epoch.specs.declared.names.Ptr.{Ptr}
use Rattle.crossbeam_epoch.specs.declared.world.participant.Participant.{Participant}
use Rattle.crossbeam_epoch.specs.declared.bag.Sealed.{Sealed}
use Rattle.crossbeam_epoch.specs.declared.world.participant.Phase.{Phase}
use Rattle.crossbeam_epoch.specs.declared.world.participant.Phase.TheVariants.{Idle, Look, Publish, RepinLook, RepinPublish, Seal, Queue, ReleaseSeal, ReleaseQueue, Secure, SecureSeal, SecureQueue, Load, Inspect, Advance, Take, Call}
use Rattle.crossbeam_epoch.specs.declared.world.report.Op.{Op}
use Rattle.crossbeam_epoch.specs.declared.world.report.Op.TheVariants as O
use Rattle.crossbeam_epoch.specs.declared.world.report.Event.{Event}
use Rattle.crossbeam_epoch.specs.declared.world.report.Event.TheVariants.{Begin, Go}
use Rattle.crossbeam_epoch.specs.declared.world.report.Outcome.{Outcome}
use Rattle.crossbeam_epoch.specs.declared.world.report.Outcome.TheVariants.{Running, Done, Refused}
use Rattle.crossbeam_epoch.specs.declared.world.report.Report.{Report}
use Rattle.crossbeam_epoch.specs.declared.world.report.Step.{Step}
use Rattle.crossbeam_epoch.specs.world.Fits.{Fits}
use Rattle.crossbeam_epoch.specs.world.History.{Mark}
use Rattle.crossbeam_epoch.specs.Chain.{room_behind}
use Rattle.crossbeam_epoch.specs.world.Machine.{State, place, blank, with_place, in_phase, published, is_at, relooked, repinned, has_free, secured, inspection, ends_advance, is_due, taken, after_call, called_one, opened, registered, deferred, deferred_anew, after_deferral}
use Rattle.crossbeam_epoch.specs.world.Steps.{fault, event_fault, begin_fault, when, begun, gone, moved, needs_memory, after, marks, state_after, AreReports, defer_fault, or_count, quiet_fault, IsOutcome, IsReport}
use Rattle.crossbeam_epoch.specs.world.Store.{Store}
use Rattle.crossbeam_epoch.specs.world.Sealing.{SealsAt, IsSealing}
use Rattle.crossbeam_epoch.proofs.lemmas.world.Moves.{none_in, top_now, contains_drop}
use Rattle.crossbeam_epoch.proofs.lemmas.world.Runs.{in_table, known_if_faultless, begin_idle, blank_at, fits_after, no_quiet}

-- a later epoch does
later : (e e' bag : ℕ) (phase : Phase) → e ≤ e' → SealsAt e bag phase → SealsAt e' bag phase
later e e' bag (Queue seal) le x = let b = x.1 in (x.0, omega (arith, le, b))
later e e' bag (ReleaseQueue seal) le x = let b = x.1 in (x.0, omega (arith, le, b))
later e e' bag (SecureQueue seal) le x = let b = x.1 in (x.0, omega (arith, le, b))
later e e' bag Seal le x = x
later e e' bag ReleaseSeal le x = x
later e e' bag (Secure n) le x = x
later e e' bag SecureSeal le x = x
later e e' bag Idle le x = tt
later e e' bag Look le x = tt
later e e' bag (Publish seen) le x = tt
later e e' bag RepinLook le x = tt
later e e' bag (RepinPublish seen) le x = tt
later e e' bag Load le x = tt
later e e' bag (Inspect seen at) le x = tt
later e e' bag (Advance seen) le x = tt
later e e' bag (Take answered bags) le x = tt
later e e' bag (Call answered bags seal) le x = tt

after_pin : (e bag : ℕ) (b : Bool) → SealsAt e bag (if b then Load else Idle)
after_pin e bag true = tt
after_pin e bag false = tt

after_look : (e bag epoch : ℕ) (b : Bool) → SealsAt e bag (if b then Idle else RepinPublish epoch)
after_look e bag epoch true = tt
after_look e bag epoch false = tt

after_begin_repin : (e bag : ℕ) (b : Bool) → SealsAt e bag (if b then RepinLook else Idle)
after_begin_repin e bag true = tt
after_begin_repin e bag false = tt

after_flush : (e bag : ℕ) (b : Bool) → (bag == 0) ≡ b → SealsAt e bag (if b then Load else Seal)
after_flush e bag true z = tt
after_flush e bag false z = grind (arith, nat_tests)

after_secure : (e bag n : ℕ) (b : Bool) → nat_le (bag + n) 64 ≡ b → n ≤ 64 → SealsAt e bag (if b then Idle else SecureSeal)
after_secure e bag n true z few = tt
after_secure e bag n false z few = grind (arith, nat_tests)

after_inspection : (e bag seen at : ℕ) (ends more : Bool) → SealsAt e bag (if ends then Take seen 0 else if more then Inspect seen (at + 1) else Advance seen)
after_inspection e bag seen at true more = tt
after_inspection e bag seen at false true = tt
after_inspection e bag seen at false false = tt

after_calling : (e bag answered bags seal : ℕ) (a b : Bool) → SealsAt e bag (if a then Call answered bags seal else if b then Take answered bags else Idle)
after_calling e bag answered bags seal true b = tt
after_calling e bag answered bags seal false true = tt
after_calling e bag answered bags seal false false = tt

few_places : (n : ℕ) (a b : Bool) → nat_le n 64 ≡ b → when (not (a && b)) F.Limits ≡ None → n ≤ 64
few_places n true true z e = grind (arith, nat_tests)
few_places n true false z e = absurd (cc e)
few_places n false true z e = absurd (cc e)
few_places n false false z e = absurd (cc e)

few_secured : (n : ℕ) (a : Bool) → (if a then Some F.Unpinned else when (not (nat_lt 0 n && nat_le n 64)) F.Limits) ≡ None → n ≤ 64
few_secured n true e = absurd (cc e)
few_secured n false e = few_places n (nat_lt 0 n) (nat_le n 64) refl e

module _ {J : Type 0} where
  quiet_idle : (phase : Phase) (p : Participant J) (e n : ℕ) → quiet_fault phase p ≡ None → SealsAt e n phase
  quiet_idle Idle p e n q = tt
  quiet_idle Look p e n q = absurd (cc q)
  quiet_idle (Publish seen) p e n q = absurd (cc q)
  quiet_idle RepinLook p e n q = absurd (cc q)
  quiet_idle (RepinPublish seen) p e n q = absurd (cc q)
  quiet_idle Seal p e n q = absurd (cc q)
  quiet_idle (Queue seal) p e n q = absurd (cc q)
  quiet_idle ReleaseSeal p e n q = absurd (cc q)
  quiet_idle (ReleaseQueue seal) p e n q = absurd (cc q)
  quiet_idle (Secure m) p e n q = absurd (cc q)
  quiet_idle SecureSeal p e n q = absurd (cc q)
  quiet_idle (SecureQueue seal) p e n q = absurd (cc q)
  quiet_idle Load p e n q = absurd (cc q)
  quiet_idle (Inspect seen at) p e n q = absurd (cc q)
  quiet_idle (Advance seen) p e n q = absurd (cc q)
  quiet_idle (Take answered bags) p e n q = absurd (cc q)
  quiet_idle (Call answered bags seal) p e n q = absurd (cc q)

  push_filled : (queue : List (Sealed J)) (b : Sealed J) → ((c : Sealed J) → Contains queue c → 0 < length c.jobs) → 0 < length b.jobs → (c : Sealed J) → Contains (queue ++ b ∷ []) c → 0 < length c.jobs
  push_filled queue b all one c m = elim (Contains-push_cases queue b c m) [
    | inl old ↦ all c old
    | inr is ↦ subst (λ (d : Sealed J). 0 < length d.jobs) is one
  ]

  push_past : (queue : List (Sealed J)) (b : Sealed J) (e : ℕ) → ((c : Sealed J) → Contains queue c → c.seal ≤ e) → b.seal ≤ e → (c : Sealed J) → Contains (queue ++ b ∷ []) c → c.seal ≤ e
  push_past queue b e all one c m = elim (Contains-push_cases queue b c m) [
    | inl old ↦ all c old
    | inr is ↦ subst (λ (d : Sealed J). d.seal ≤ e) is one
  ]

module _ {T J : Type 0} where
  -- a place, the queue and the epoch change
  put : (s s' : State T J) (who : ℕ) (p : Participant J) → s'.table ≡ slice_set s.table who p → s.epoch ≤ s'.epoch → who < length s.table → IsSealing s → SealsAt s'.epoch (length p.bag) p.phase
      → ((b : Sealed J) → Contains s'.queue b → 0 < length b.jobs) → ((b : Sealed J) → Contains s'.queue b → b.seal ≤ s'.epoch) → IsSealing s'
  put s s' who p table le lt i here filled past = record {
    filled = filled;
    past = past;
    places = λ q. elim (cases_eq q who) [
      | inl is ↦ rw (table, is, get_or-set_same s.table who p blank lt) here
      | inr ne ↦ rw (table, get_or-set_other s.table who q p blank ne) (later s.epoch s'.epoch (length (place s q).bag) (place s q).phase le (i.places q))
    ];
  }

  -- the queue and the epoch stay
  stay : (s : State T J) (who : ℕ) (p : Participant J) → who < length s.table → IsSealing s → SealsAt s.epoch (length p.bag) p.phase → IsSealing (with_place s who p)
  stay s who p lt i here = put s (with_place s who p) who p refl (omega arith) lt i here i.filled i.past

  queues_bag : (s : State T J) (who seal : ℕ) (p : Participant J) (bag : List (Deferral J)) → who < length s.table → IsSealing s → SealsAt s.epoch (length p.bag) p.phase → 0 < length bag → seal ≤ s.epoch
      → IsSealing (record s { table = slice_set s.table who p; queue = s.queue ++ record { seal = seal; jobs = bag } ∷ []; room = room_behind s.room })
  queues_bag s who seal p bag lt i here some le =
      put s (record s { table = slice_set s.table who p; queue = s.queue ++ record { seal = seal; jobs = bag } ∷ []; room = room_behind s.room }) who p refl (omega arith) lt i here
      (push_filled s.queue (record { seal = seal; jobs = bag }) i.filled some) (push_past s.queue (record { seal = seal; jobs = bag }) s.epoch i.past le)

  advances : (s : State T J) (who seen : ℕ) (b : Bool) → who < length s.table → s.epoch ≤ seen + 1 → IsSealing s → IsSealing (if b then record (in_phase s who (Take (seen + 1) 0)) { epoch = seen + 1 } else in_phase s who (Take seen 0))
  advances s who seen true lt le i =
      put s (record (in_phase s who (Take (seen + 1) 0)) { epoch = seen + 1 }) who (record (place s who) { phase = Take (seen + 1) 0 }) refl le lt i tt i.filled (λ b m. let past = i.past b m in omega (arith, past, le))
  advances s who seen false lt le i = stay s who (record (place s who) { phase = Take seen 0 }) lt i tt

  takes : (s : State T J) (who answered bags : ℕ) (b : Bool) → who < length s.table → IsSealing s → IsSealing (if b then taken s who answered bags else in_phase s who Idle)
  takes s who answered bags true lt i =
      let b = slice_index_or s.queue 0 (record { seal = 0; jobs = [] }) in
      put s (taken s who answered bags) who (record (place s who) { hand = b.jobs; phase = Call answered (bags + 1) b.seal }) refl (omega arith) lt i tt (λ c m. i.filled c (contains_drop s.queue c m)) (λ c m. i.past c (contains_drop s.queue c m))
  takes s who answered bags false lt i = stay s who (record (place s who) { phase = Idle }) lt i tt

  calls_one : (s : State T J) (who answered bags seal : ℕ) (b : Bool) → who < length s.table → IsSealing s → IsSealing (if b then in_phase s who Idle else called_one s who answered bags seal)
  calls_one s who answered bags seal true lt i = stay s who (record (place s who) { phase = Idle }) lt i tt
  calls_one s who answered bags seal false lt i =
      let p = place s who in
      let rest = remove p.hand 0 in
      put s (called_one s who answered bags seal) who (record p { hand = rest; phase = after_call (length rest) answered bags seal }) refl (omega arith) lt i
      (after_calling s.epoch (length p.bag) answered bags seal (nat_lt 0 (length rest)) (nat_lt bags 8)) i.filled i.past

  -- an advance takes the epoch to no less than it was
  no_lower : (h : List Mark) (s : State T J) (who seen : ℕ) → (place s who).phase ≡ Advance seen → Fits h s → s.epoch ≤ seen + 1
  no_lower h s who seen is f =
      let c = rw is at (f.places who).phase in
      let top = top_now h s who c.own.0 f c.own.1 in
      let own = c.own.2 in
      let high = top.1 in
      omega (arith, own, high)

  going : (h : List Mark) (s : State T J) (who : ℕ) (phase : Phase) → who < length s.table → (place s who).phase ≡ phase → Fits h s → SealsAt s.epoch (length (place s who).bag) phase → IsSealing s → IsSealing (gone s who phase)
  going h s who Idle lt is f x i = i
  going h s who Look lt is f x i = stay s who (record (place s who) { phase = Publish s.epoch }) lt i tt
  going h s who (Publish seen) lt is f x i = stay s who (published seen (place s who)) lt i (after_pin s.epoch (length (place s who).bag) ((place s who).pins == 0))
  going h s who RepinLook lt is f x i = stay s who (relooked s.epoch (place s who)) lt i (after_look s.epoch (length (place s who).bag) s.epoch (is_at (place s who).word s.epoch))
  going h s who (RepinPublish seen) lt is f x i = stay s who (repinned seen (place s who)) lt i tt
  going h s who Seal lt is f x i = stay s who (record (place s who) { phase = Queue s.epoch }) lt i (x, omega arith)
  going h s who (Queue seal) lt is f x i = queues_bag s who seal (record (place s who) { bag = []; phase = Load }) (place s who).bag lt i tt x.0 x.1
  going h s who ReleaseSeal lt is f x i = stay s who (record (place s who) { phase = ReleaseQueue s.epoch }) lt i (x, omega arith)
  going h s who (ReleaseQueue seal) lt is f x i = queues_bag s who seal blank (place s who).bag lt i tt x.0 x.1
  going h s who (Secure n) lt is f x i = stay s who (secured n (place s who)) lt i (after_secure s.epoch (length (place s who).bag) n (has_free (place s who).bag n) refl x)
  going h s who SecureSeal lt is f x i = stay s who (record (place s who) { phase = SecureQueue s.epoch }) lt i (x, omega arith)
  going h s who (SecureQueue seal) lt is f x i = queues_bag s who seal (record (place s who) { bag = []; phase = Idle }) (place s who).bag lt i tt x.0 x.1
  going h s who Load lt is f x i = stay s who (record (place s who) { phase = Inspect s.epoch 0 }) lt i tt
  going h s who (Inspect seen at) lt is f x i = stay s who (record (place s who) { phase = inspection s seen at }) lt i (after_inspection s.epoch (length (place s who).bag) seen at (ends_advance (place s at).word seen) (nat_lt (at + 1) (length s.table)))
  going h s who (Advance seen) lt is f x i = advances s who seen (nat_lt seen s.limits.epoch_max) lt (no_lower h s who seen is f) i
  going h s who (Take answered bags) lt is f x i = takes s who answered bags (is_due s answered && nat_lt bags 8) lt i
  going h s who (Call answered bags seal) lt is f x i = calls_one s who answered bags seal (length (place s who).hand == 0) lt i

  begun_pin : (s : State T J) (who : ℕ) (b : Bool) → who < length s.table → (place s who).phase ≡ Idle → IsSealing s → IsSealing (with_place s who (if b then record (place s who) { phase = Look } else record (place s who) { guards = (place s who).guards + 1 }))
  begun_pin s who true lt is i = stay s who (record (place s who) { phase = Look }) lt i tt
  begun_pin s who false lt is i = stay s who (record (place s who) { guards = (place s who).guards + 1 }) lt i (i.places who)

  begun_unpin : (s : State T J) (who : ℕ) (b : Bool) → who < length s.table → IsSealing s → IsSealing (with_place s who (if b then record (place s who) { word = None; guards = 0 } else record (place s who) { guards = (place s who).guards - 1 }))
  begun_unpin s who true lt i = stay s who (record (place s who) { word = None; guards = 0 }) lt i (i.places who)
  begun_unpin s who false lt i = stay s who (record (place s who) { guards = (place s who).guards - 1 }) lt i (i.places who)

  begun_release : (s : State T J) (who : ℕ) (b : Bool) → (length (place s who).bag == 0) ≡ b → who < length s.table → IsSealing s → IsSealing (with_place s who (if b then blank else record (place s who) { phase = ReleaseSeal }))
  begun_release s who true z lt i = stay s who blank lt i tt
  begun_release s who false z lt i = stay s who (record (place s who) { phase = ReleaseSeal }) lt i (let some : 0 < length (place s who).bag = grind (arith, nat_tests) in some)

  beginning : (s : State T J) (who : ℕ) (op : Op) → who < length s.table → (place s who).phase ≡ Idle → begin_fault op (place s who) ≡ None → IsSealing s → IsSealing (begun s who op)
  beginning s who O.Pin lt is e i = begun_pin s who (is_none (place s who).word) lt is i
  beginning s who O.Unpin lt is e i = begun_unpin s who (nat_le (place s who).guards 1) lt i
  beginning s who O.Repin lt is e i = stay s who (record (place s who) { phase = if nat_le (place s who).guards 1 then RepinLook else Idle }) lt i (after_begin_repin s.epoch (length (place s who).bag) (nat_le (place s who).guards 1))
  beginning s who O.Flush lt is e i = stay s who (record (place s who) { phase = if length (place s who).bag == 0 then Load else Seal }) lt i (after_flush s.epoch (length (place s who).bag) (length (place s who).bag == 0) refl)
  beginning s who O.Release lt is e i = begun_release s who (length (place s who).bag == 0) refl lt i
  beginning s who (O.Secure n) lt is e i = stay s who (record (place s who) { phase = Secure n }) lt i (few_secured n (is_none (place s who).word) e)

  moving : (h : List Mark) (s : State T J) (who : ℕ) (event : Event) → fault s who event ≡ None → Fits h s → IsSealing s → IsSealing (moved s who event)
  moving h s who (Begin op) e f i =
      let k = known_if_faultless (place s who).registered (event_fault (Begin op) (place s who).phase (place s who)) e in
      let idle = begin_idle op (place s who).phase (place s who) k.1 in
      beginning s who op (in_table s who k.0) idle (rw idle at k.1) i
  moving h s who Go e f i =
      let k = known_if_faultless (place s who).registered (event_fault Go (place s who).phase (place s who)) e in
      going h s who (place s who).phase (in_table s who k.0) refl f (i.places who) i

  gives_up : (s : State T J) (who : ℕ) (b : Bool) → IsSealing s → IsSealing (if b then in_phase s who Idle else s)
  gives_up s who false i = i
  gives_up s who true i = elim (cases_lt who (length s.table)) [
    | inl lt ↦ stay s who (record (place s who) { phase = Idle }) lt i tt
    | inr ge ↦ rw (set_past s.table who (record (place s who) { phase = Idle }) ge) i
  ]

  refused : (s : State T J) (who : ℕ) (event : Event) (e : Fault) → IsSealing s → IsSealing (after s who event (Refused e))
  refused s who event F.Memory i = gives_up s who (needs_memory event (place s who).phase) i
  refused s who event F.TableFull i = i
  refused s who event F.CellsFull i = i
  refused s who event F.Unpinned i = i
  refused s who event F.Busy i = i
  refused s who event F.Count i = i
  refused s who event F.GuardOut i = i
  refused s who event (F.Registered n) i = i
  refused s who event F.Unknown i = i
  refused s who event F.Foreign i = i
  refused s who event F.Idle i = i
  refused s who event F.Limits i = i
  refused s who event F.InCall i = i

  by_outcome : (h : List Mark) (s : State T J) (who : ℕ) (event : Event) (e : Option Fault) (outcome : Outcome) → fault s who event ≡ e → IsOutcome s who event e outcome → Fits h s → IsSealing s → IsSealing (after s who event outcome)
  by_outcome h s who event e (Refused x) is o f i = refused s who event x i
  by_outcome h s who event (Some x) Running is o f i = absurd (cc o)
  by_outcome h s who event (Some x) Done is o f i = absurd (cc o)
  by_outcome h s who event None Running is o f i = moving h s who event is f i
  by_outcome h s who event None Done is o f i = moving h s who event is f i

  -- after a step no empty bag is queued, and no seal is past the epoch
  pub sealing_after : (h : List Mark) (s : State T J) (who : ℕ) (event : Event) (r : Report) → IsReport s who event r → Fits h s → IsSealing s → IsSealing (after s who event r.outcome)
  sealing_after h s who event r is f i = by_outcome h s who event (fault s who event) r.outcome refl is.outcome f i

  -- after a run no empty bag is queued, and no seal is past the epoch
  pub sealing_run : (h : List Mark) (s : State T J) (steps : List Step) (reports : List Report) → AreReports s steps reports → Fits h s → IsSealing s → IsSealing (state_after s steps reports)
  sealing_run h s [] [] are f i = i
  sealing_run h s [] (r ∷ reports) are f i = absurd are
  sealing_run h s (step ∷ steps) [] are f i = i
  sealing_run h s (step ∷ steps) (r ∷ reports) are f i =
      sealing_run (marks s step.who step.event r h) (after s step.who step.event r.outcome) steps reports are.1 (fits_after h s step.who step.event r are.0 f) (sealing_after h s step.who step.event r are.0 f i)

  -- of a new collector no empty bag is queued, and no seal is past the epoch
  pub sealing_opened : (limits : Limits) (roots : ℕ) → IsSealing {T = T} {J = J} (opened limits roots)
  sealing_opened limits roots = record {
    filled = λ b m. absurd (none_in b m);
    past = λ b m. absurd (none_in b m);
    places = λ q. rw (blank_at limits.participants q) tt;
  }

  -- after a registration no empty bag is queued, and no seal is past the epoch
  pub sealing_registered : (s : State T J) (n : ℕ) → n < length s.table → IsSealing s → IsSealing (registered s n)
  sealing_registered s n lt i = stay s n (record (place s n) { registered = true; pins = 0 }) lt i (i.places n)

  -- with other cells and roots no empty bag is queued, and no seal is past the epoch
  pub sealing_beside : (s : State T J) (st : Store T) (roots : List Ptr) → IsSealing s → IsSealing (record s { store = st; roots = roots })
  sealing_beside s st roots i = record { filled = i.filled; past = i.past; places = i.places }

  by_full : (s : State T J) (who : ℕ) (work : Work J) (b : Bool) → (length (place s who).bag == 64) ≡ b → who < length s.table → ((n : ℕ) → SealsAt s.epoch n (place s who).phase) → IsSealing s → IsSealing (if b then deferred_anew s who work else deferred s who work)
  by_full s who work true full lt quiet i =
      let old = place s who in
      let entry : Deferral J = record { ticket = s.next; work = work } in
      let some : 0 < length old.bag = grind (arith, nat_tests) in
      put s (deferred_anew s who work) who (record old { bag = entry ∷ [] }) refl (omega arith) lt i (quiet 1)
      (push_filled s.queue (record { seal = s.epoch; jobs = old.bag }) i.filled some) (push_past s.queue (record { seal = s.epoch; jobs = old.bag }) s.epoch i.past (omega arith))
  by_full s who work false full lt quiet i =
      let old = place s who in
      let bag = old.bag ++ record { ticket = s.next; work = work } ∷ [] in
      put s (deferred s who work) who (record old { bag = bag }) refl (omega arith) lt i (quiet (length bag)) i.filled i.past

  -- after an accepted job no empty bag is queued, and no seal is past the epoch
  pub sealing_deferral : (s : State T J) (who : ℕ) (work : Work J) → defer_fault s who ≡ None → IsSealing s → IsSealing (after_deferral s who work)
  sealing_deferral s who work e i =
      let k = known_if_faultless (place s who).registered (or_count s.next (quiet_fault (place s who).phase (place s who))) e in
      by_full s who work (length (place s who).bag == 64) refl (in_table s who k.0)
      (λ n. quiet_idle (place s who).phase (place s who) s.epoch n (no_quiet s.next (quiet_fault (place s who).phase (place s who)) k.1)) i
