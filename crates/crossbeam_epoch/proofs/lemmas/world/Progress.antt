-- What a step makes of the jobs and the cells, and how a call goes on to its end.
use Rattle.std.proofs.Common.{◌≡◌, ℕ, suc, ◌+◌, ◌-◌, ◌<◌, ◌≤◌, Bool, true, false, List, [], ◌∷◌, ◌++◌, ◌==◌, ◌&&◌, Option, Some, None, refl, sym, ◌∙◌, ap, subst, inl, inr, length, arith, get_or-set_same, get_or-set_other, length-set}
use Rattle.std.specs.Prelude.{slice_index_or, if◌then◌else◌, nat_lt, nat_le, is_none, is_some, drop, remove, slice_set}
use Rattle.std.specs.List.{Contains, sum_by}
use Rattle.std.proofs.lemmas.Bool.{cases_eq, cases_lt}
use Rattle.std.proofs.lemmas.Bool.Decides.{nat_tests}
use Rattle.std.proofs.lemmas.List.{set_past, length_push}
use Rattle.std.proofs.lemmas.List.Sums.{sum_by-append, sum_by-set}
use Rattle.std.proofs.lemmas.List.Elements.{Contains-push_cases, Contains-get_or}
use Rattle.crossbeam_epoch.specs.declared.bag.Deferral.{Deferral}
use Rattle.crossbeam_epoch.specs.declared.bag.Work.{Work}
use Rattle.crossbeam_epoch.specs.declared.bag.Work.TheVariants.{Blank, Remove, Run}
use Rattle.crossbeam_epoch.specs.declared.limits.Limits.{Limits}
use Rattle.crossbeam_epoch.specs.declared.names.Name.{Name}
use Rattle.crossbeam_epoch.specs.declared.fault.Fault.{Fault}
use Rattle.crossbeam_epoch.specs.declared.fault.Fault.TheVariants as F
use Rattle.crossbeam_epoch.specs.declared.world.participant.Participant.{Participant}
use Rattle.crossbeam_epoch.specs.declared.bag.Sealed.{Sealed}
use Rattle.crossbeam_epoch.specs.declared.world.participant.Phase.{Phase}
use Rattle.crossbeam_epoch.specs.declared.world.participant.Phase.TheVariants.{Idle, Look, Publish, RepinLook, RepinPublish, Seal, Queue, ReleaseSeal, ReleaseQueue, Secure, SecureSeal, SecureQueue, Load, Inspect, Advance, Take, Call}
use Rattle.crossbeam_epoch.specs.declared.world.report.Op.{Op}
use Rattle.crossbeam_epoch.specs.declared.world.report.Op.TheVariants as O
use Rattle.crossbeam_epoch.specs.declared.world.report.Event.{Event}
use Rattle.crossbeam_epoch.specs.declared.world.report.Event.TheVariants.{Begin, Go}
use Rattle.crossbeam_epoch.specs.declared.world.report.Outcome.{Outcome}
use Rattle.crossbeam_epoch.specs.declared.world.report.Outcome.TheVariants.{Running, Done, Refused}
use Rattle.crossbeam_epoch.specs.declared.world.report.Report.{Report}
use Rattle.crossbeam_epoch.specs.world.Fits.{HandFits, at_place, in_bag, weight}
use Rattle.crossbeam_epoch.specs.Chain.{room_behind, room_left}
use Rattle.crossbeam_epoch.specs.world.Machine.{State, place, blank, with_place, in_phase, published, relooked, repinned, secured, queued, released, inspection, is_due, no_bag, taken, after_call, called_one, no_entry, destroys, after_work, opened, registered, deferred, deferred_anew, after_deferral}
use Rattle.crossbeam_epoch.specs.world.Steps.{fault, event_fault, begun, gone, moved, needs_memory, after, quiet_fault, or_count, defer_fault, called_entry, called_by, called_in, IsOutcome, IsReport}
use Rattle.crossbeam_epoch.specs.world.Store.{Store, value_at, emptied}
use Rattle.crossbeam_epoch.specs.world.Progress.{Orderly, JobsAfter, EmptiesAt, Empties, Moves, KeepsCalls, IsOn, IsResting, collects}
use Rattle.crossbeam_epoch.proofs.lemmas.world.Moves.{none_in, none_in_hand, contains_drop, front_bag}
use Rattle.crossbeam_epoch.proofs.lemmas.world.Jobs.{first_job, no_items, hand_after}
use Rattle.crossbeam_epoch.proofs.lemmas.world.Runs.{in_table, known_if_faultless, begin_idle, blank_at, blanks_weigh_none, empty_hand, done_called}

module _ {J : Type 0} where
  -- a queue of small bags with one more, or one less
  small_push : (queue : List (Sealed J)) (b : Sealed J) → ((c : Sealed J) → Contains queue c → length c.jobs ≤ 64) → length b.jobs ≤ 64 → (c : Sealed J) → Contains (queue ++ b ∷ []) c → length c.jobs ≤ 64
  small_push queue b all one c m = elim (Contains-push_cases queue b c m) [
    | inl old ↦ all c old
    | inr is ↦ subst (λ (d : Sealed J). length d.jobs ≤ 64) is one
  ]

  -- some jobs are one more than those behind the first
  pub one_less : (jobs : List (Deferral J)) → 0 < length jobs → length jobs ≡ suc (length (remove jobs 0))
  one_less [] lt = absurd (omega arith)
  one_less (x ∷ rest) lt = refl

  -- a new collector has no jobs, whatever each would weigh
  pub opened_weighs : (T : Type 0) (limits : Limits) (roots : ℕ) (f : Deferral J → ℕ) → weight f (opened {T = T} limits roots) ≡ 0
  opened_weighs T limits roots f = omega (arith, blanks_weigh_none f limits.participants)

module _ {T J : Type 0} where
  -- what a call tells is what it destroyed
  emptied_by : (st st' : Store T) (w : Work J) → st' ≡ after_work st w → EmptiesAt st (destroys st w) st'
  emptied_by st st' Blank e = e
  emptied_by st st' (Run job) e = e
  emptied_by st st' (Remove n) e = by_standing (is_some (value_at st n)) refl e
    where
      by_standing : (b : Bool) → is_some (value_at st n) ≡ b → st' ≡ (if b then emptied st n.cell else st) → EmptiesAt st (if b then Some n else None) st'
      by_standing true live e = (live, e)
      by_standing false gone e = e

  empties : (s s' : State T J) (c : Option (ℕ × Option Name)) → JobsAfter s c s' → Empties s.store c s'.store
  empties s s' None j = j.0
  empties s s' (Some c) j = subst (λ (x : ℕ × Option Name). EmptiesAt s.store x.1 s'.store) (sym j.1) (emptied_by s.store s'.store j.0.work j.2)

  -- a place and the queue change
  moves_put : (s : State T J) (who : ℕ) (p : Participant J) (epoch' waiting' : ℕ) (queue' : List (Sealed J)) (store' : Store T) (c : Option (ℕ × Option Name))
      → who < length s.table → Orderly s → HandFits p.phase p.hand → length p.bag ≤ 64 → length p.hand ≤ 64 → ((b : Sealed J) → Contains queue' b → length b.jobs ≤ 64)
      → JobsAfter s c (record s { epoch = epoch'; waiting = waiting'; store = store'; queue = queue'; table = slice_set s.table who p })
      → Moves s who c (record s { epoch = epoch'; waiting = waiting'; store = store'; queue = queue'; table = slice_set s.table who p })
  moves_put s who p epoch' waiting' queue' store' c lt o fits bag hand queue jobs = record {
    orderly = record {
      hands = λ q. elim (cases_eq q who) [
        | inl is ↦ rw (is, get_or-set_same s.table who p blank lt) fits
        | inr ne ↦ rw (get_or-set_other s.table who q p blank ne) (o.hands q)
      ];
      bags = λ q. elim (cases_eq q who) [
        | inl is ↦ rw (is, get_or-set_same s.table who p blank lt) bag
        | inr ne ↦ rw (get_or-set_other s.table who q p blank ne) (o.bags q)
      ];
      held = λ q. elim (cases_eq q who) [
        | inl is ↦ rw (is, get_or-set_same s.table who p blank lt) hand
        | inr ne ↦ rw (get_or-set_other s.table who q p blank ne) (o.held q)
      ];
      sealed = queue;
    };
    jobs = jobs;
    cells = empties s (record s { epoch = epoch'; waiting = waiting'; store = store'; queue = queue'; table = slice_set s.table who p }) c jobs;
    roots = refl;
    limits = refl;
    table = length-set s.table who p;
    others = λ q ne. get_or-set_other s.table who q p blank ne;
    next = refl;
  }

  -- the jobs move between a place and the queue
  stands : (s : State T J) (who : ℕ) (p : Participant J) (epoch' : ℕ) (queue' : List (Sealed J)) → who < length s.table
      → ((f : Deferral J → ℕ) → at_place f p + sum_by (in_bag f) queue' ≡ at_place f (place s who) + sum_by (in_bag f) s.queue)
      → JobsAfter s None (record s { epoch = epoch'; queue = queue'; table = slice_set s.table who p })
  stands s who p epoch' queue' lt e = (refl, refl, λ f. let set = sum_by-set (at_place f) s.table who p blank lt in let is = e f in omega arith)

  -- the jobs stay where they are
  stays : (s : State T J) (who : ℕ) (p : Participant J) (epoch' : ℕ) → who < length s.table → Orderly s → HandFits p.phase p.hand → p.bag ≡ (place s who).bag → p.hand ≡ (place s who).hand
      → Moves s who None (record s { epoch = epoch'; table = slice_set s.table who p })
  stays s who p epoch' lt o fits bag hand =
      moves_put s who p epoch' s.waiting s.queue s.store None lt o fits (rw bag (o.bags who)) (rw hand (o.held who)) o.sealed
      (stands s who p epoch' s.queue lt (λ f. let g : at_place f p ≡ at_place f (place s who) = rw (bag, hand) in omega arith))

  phase_only : (s : State T J) (who : ℕ) (phase : Phase) → who < length s.table → Orderly s → (place s who).hand ≡ [] → Moves s who None (in_phase s who phase)
  phase_only s who phase lt o none = stays s who (record (place s who) { phase = phase }) s.epoch lt o (none_in_hand phase (place s who).hand none) refl refl

  nothing : (s : State T J) (who : ℕ) → Orderly s → Moves s who None s
  nothing s who o = record { orderly = o; jobs = (refl, refl, λ f. refl); cells = refl; roots = refl; limits = refl; table = refl; others = λ q ne. refl; next = refl }

  -- how much room the queue has is nothing to the jobs
  moves_room : (s s' : State T J) (who room : ℕ) → Moves s who None s' → Moves s who None (record s' { room = room })
  moves_room s s' who room m = record {
    orderly = record { hands = m.orderly.hands; bags = m.orderly.bags; held = m.orderly.held; sealed = m.orderly.sealed };
    jobs = m.jobs;
    cells = m.cells;
    roots = m.roots;
    limits = m.limits;
    table = m.table;
    others = m.others;
    next = m.next;
  }

  moves_queued : (s : State T J) (who seal : ℕ) (phase : Phase) → who < length s.table → Orderly s → (place s who).hand ≡ [] → Moves s who None (queued s who seal phase)
  moves_queued s who seal phase lt o none =
      let old = place s who in
      let b : Sealed J = record { seal = seal; jobs = old.bag } in
      let p = record old { bag = []; phase = phase } in
      moves_room s _ who (room_behind s.room) (
      moves_put s who p s.epoch s.waiting (s.queue ++ b ∷ []) s.store None lt o (none_in_hand phase old.hand none) (omega arith) (o.held who) (small_push s.queue b o.sealed (o.bags who))
      (stands s who p s.epoch (s.queue ++ b ∷ []) lt (λ w. omega (arith, sum_by-append (in_bag w) s.queue (b ∷ [])))))

  moves_left : (s : State T J) (who seal : ℕ) → who < length s.table → Orderly s → (place s who).hand ≡ [] → Moves s who None (released s who seal)
  moves_left s who seal lt o none =
      let old = place s who in
      let b : Sealed J = record { seal = seal; jobs = old.bag } in
      moves_room s _ who (room_behind s.room) (
      moves_put s who blank s.epoch s.waiting (s.queue ++ b ∷ []) s.store None lt o refl (omega arith) (omega arith) (small_push s.queue b o.sealed (o.bags who))
      (stands s who blank s.epoch (s.queue ++ b ∷ []) lt (λ w. let e : sum_by w old.hand ≡ 0 = ap (sum_by w) none in omega (arith, e, sum_by-append (in_bag w) s.queue (b ∷ [])))))

  moves_gone : (s : State T J) (who : ℕ) → who < length s.table → Orderly s → (place s who).hand ≡ [] → (place s who).bag ≡ [] → Moves s who None (with_place s who blank)
  moves_gone s who lt o none empty = stays s who blank s.epoch lt o refl (sym empty) (sym none)

  moves_advanced : (s : State T J) (who seen : ℕ) (b : Bool) → who < length s.table → Orderly s → (place s who).hand ≡ []
      → Moves s who None (if b then record (in_phase s who (Take (seen + 1) 0)) { epoch = seen + 1 } else in_phase s who (Take seen 0))
  moves_advanced s who seen true lt o none = stays s who (record (place s who) { phase = Take (seen + 1) 0 }) (seen + 1) lt o none refl refl
  moves_advanced s who seen false lt o none = phase_only s who (Take seen 0) lt o none

  due_front : (s : State T J) (answered bags : ℕ) → (is_due s answered && nat_lt bags 8) ≡ true → 0 < length s.queue
  due_front s answered bags due = grind (arith, nat_tests)

  moves_took : (s : State T J) (who answered bags : ℕ) (b : Bool) → who < length s.table → Orderly s → (place s who).hand ≡ [] → (is_due s answered && nat_lt bags 8) ≡ b
      → Moves s who None (if b then taken s who answered bags else in_phase s who Idle)
  moves_took s who answered bags true lt o none due =
      let b = slice_index_or s.queue 0 no_bag in
      let p = record (place s who) { hand = b.jobs; phase = Call answered (bags + 1) b.seal } in
      let some = due_front s answered bags due in
      moves_room s _ who (room_left (length (drop 1 s.queue)) s.room) (
      moves_put s who p s.epoch s.waiting (drop 1 s.queue) s.store None lt o tt (o.bags who) (o.sealed b (Contains-get_or s.queue 0 no_bag some)) (λ c m. o.sealed c (contains_drop s.queue c m))
      (stands s who p s.epoch (drop 1 s.queue) lt (λ w.
      let rest = front_bag (in_bag w) s.queue some in
      let e : sum_by w (place s who).hand ≡ 0 = ap (sum_by w) none in
      omega arith)))
  moves_took s who answered bags false lt o none due = phase_only s who Idle lt o none

  moves_called : (s : State T J) (who answered bags seal : ℕ) (b : Bool) → who < length s.table → Orderly s → (length (place s who).hand == 0) ≡ b
      → Moves s who (if b then None else Some (called_entry s.store (slice_index_or (place s who).hand 0 no_entry))) (if b then in_phase s who Idle else called_one s who answered bags seal)
  moves_called s who answered bags seal true lt o e = phase_only s who Idle lt o (no_items (place s who).hand e)
  moves_called s who answered bags seal false lt o e =
      let old = place s who in
      let some : 0 < length old.hand = grind (arith, nat_tests) in
      let rest = remove old.hand 0 in
      let p = record old { hand = rest; phase = after_call (length rest) answered bags seal } in
      let entry = slice_index_or old.hand 0 no_entry in
      let less = one_less old.hand some in
      let held = o.held who in
      moves_put s who p s.epoch (s.waiting - 1) s.queue (after_work s.store entry.work) _ lt o (hand_after rest answered bags seal (nat_lt 0 (length rest)) refl) (o.bags who) (omega arith) o.sealed (
        entry,
        refl,
        refl,
        refl,
        λ f.
            let set = sum_by-set (at_place f) s.table who p blank lt in
            let first = first_job f old.hand some in
            omega arith,
      )

  going : (s : State T J) (who : ℕ) (phase : Phase) → who < length s.table → Orderly s → HandFits phase (place s who).hand → Moves s who (called_by s.store phase (place s who).hand) (gone s who phase)
  going s who Idle lt o fits = nothing s who o
  going s who Look lt o fits = phase_only s who (Publish s.epoch) lt o fits
  going s who (Publish seen) lt o fits = stays s who (published seen (place s who)) s.epoch lt o (none_in_hand (published seen (place s who)).phase (place s who).hand fits) refl refl
  going s who RepinLook lt o fits = stays s who (relooked s.epoch (place s who)) s.epoch lt o (none_in_hand (relooked s.epoch (place s who)).phase (place s who).hand fits) refl refl
  going s who (RepinPublish seen) lt o fits = stays s who (repinned seen (place s who)) s.epoch lt o fits refl refl
  going s who Seal lt o fits = phase_only s who (Queue s.epoch) lt o fits
  going s who (Queue seal) lt o fits = moves_queued s who seal Load lt o fits
  going s who ReleaseSeal lt o fits = phase_only s who (ReleaseQueue s.epoch) lt o fits
  going s who (ReleaseQueue seal) lt o fits = moves_left s who seal lt o fits
  going s who (Secure n) lt o fits = stays s who (secured n (place s who)) s.epoch lt o (none_in_hand (secured n (place s who)).phase (place s who).hand fits) refl refl
  going s who SecureSeal lt o fits = phase_only s who (SecureQueue s.epoch) lt o fits
  going s who (SecureQueue seal) lt o fits = moves_queued s who seal Idle lt o fits
  going s who Load lt o fits = phase_only s who (Inspect s.epoch 0) lt o fits
  going s who (Inspect seen at) lt o fits = phase_only s who (inspection s seen at) lt o fits
  going s who (Advance seen) lt o fits = moves_advanced s who seen (nat_lt seen s.limits.epoch_max) lt o fits
  going s who (Take answered bags) lt o fits = moves_took s who answered bags (is_due s answered && nat_lt bags 8) lt o fits refl
  going s who (Call answered bags seal) lt o fits = moves_called s who answered bags seal (length (place s who).hand == 0) lt o refl

  -- a call begins at a place without a call in flight
  begun_release : (s : State T J) (who : ℕ) (b : Bool) → who < length s.table → Orderly s → (place s who).hand ≡ [] → (length (place s who).bag == 0) ≡ b
      → Moves s who None (with_place s who (if b then blank else record (place s who) { phase = ReleaseSeal }))
  begun_release s who true lt o none e = moves_gone s who lt o none (no_items (place s who).bag e)
  begun_release s who false lt o none e = phase_only s who ReleaseSeal lt o none

  begun_pin : (s : State T J) (who : ℕ) (b : Bool) → who < length s.table → Orderly s → (place s who).hand ≡ [] → HandFits (place s who).phase (place s who).hand
      → Moves s who None (with_place s who (if b then record (place s who) { phase = Look } else record (place s who) { guards = (place s who).guards + 1 }))
  begun_pin s who true lt o none fits = phase_only s who Look lt o none
  begun_pin s who false lt o none fits = stays s who (record (place s who) { guards = (place s who).guards + 1 }) s.epoch lt o fits refl refl

  begun_unpin : (s : State T J) (who : ℕ) (b : Bool) → who < length s.table → Orderly s → HandFits (place s who).phase (place s who).hand
      → Moves s who None (with_place s who (if b then record (place s who) { word = None; guards = 0 } else record (place s who) { guards = (place s who).guards - 1 }))
  begun_unpin s who true lt o fits = stays s who (record (place s who) { word = None; guards = 0 }) s.epoch lt o fits refl refl
  begun_unpin s who false lt o fits = stays s who (record (place s who) { guards = (place s who).guards - 1 }) s.epoch lt o fits refl refl

  beginning : (s : State T J) (who : ℕ) (op : Op) → who < length s.table → Orderly s → (place s who).phase ≡ Idle → Moves s who None (begun s who op)
  beginning s who O.Pin lt o is = begun_pin s who (is_none (place s who).word) lt o (rw is at (o.hands who)) (o.hands who)
  beginning s who O.Unpin lt o is = begun_unpin s who (nat_le (place s who).guards 1) lt o (o.hands who)
  beginning s who O.Repin lt o is = phase_only s who (if nat_le (place s who).guards 1 then RepinLook else Idle) lt o (rw is at (o.hands who))
  beginning s who O.Flush lt o is = phase_only s who (if length (place s who).bag == 0 then Load else Seal) lt o (rw is at (o.hands who))
  beginning s who O.Release lt o is = begun_release s who (length (place s who).bag == 0) lt o (rw is at (o.hands who)) refl
  beginning s who (O.Secure n) lt o is = phase_only s who (Secure n) lt o (rw is at (o.hands who))

  moving : (s : State T J) (who : ℕ) (event : Event) → fault s who event ≡ None → Orderly s → Moves s who (called_in s who event Running) (moved s who event)
  moving s who (Begin op) e o =
      let k = known_if_faultless (place s who).registered (event_fault (Begin op) (place s who).phase (place s who)) e in
      beginning s who op (in_table s who k.0) o (begin_idle op (place s who).phase (place s who) k.1)
  moving s who Go e o =
      let k = known_if_faultless (place s who).registered (event_fault Go (place s who).phase (place s who)) e in
      going s who (place s who).phase (in_table s who k.0) o (o.hands who)

  -- a call that found no memory
  gives_up : (s : State T J) (who : ℕ) (event : Event) (b : Bool) → needs_memory event (place s who).phase ≡ b → Orderly s → Moves s who None (if b then in_phase s who Idle else s)
  gives_up s who event false is o = nothing s who o
  gives_up s who event true is o = elim (cases_lt who (length s.table)) [
    | inl lt ↦ phase_only s who Idle lt o (empty_hand event (place s who).phase (place s who).hand is (o.hands who))
    | inr ge ↦ rw (set_past s.table who (record (place s who) { phase = Idle }) ge) (nothing s who o)
  ]

  refused : (s : State T J) (who : ℕ) (event : Event) (e : Fault) → Orderly s → Moves s who None (after s who event (Refused e))
  refused s who event F.TableFull o = nothing s who o
  refused s who event F.CellsFull o = nothing s who o
  refused s who event F.Memory o = gives_up s who event (needs_memory event (place s who).phase) refl o
  refused s who event F.Unpinned o = nothing s who o
  refused s who event F.Busy o = nothing s who o
  refused s who event F.Count o = nothing s who o
  refused s who event F.GuardOut o = nothing s who o
  refused s who event (F.Registered n) o = nothing s who o
  refused s who event F.Unknown o = nothing s who o
  refused s who event F.Foreign o = nothing s who o
  refused s who event F.Idle o = nothing s who o
  refused s who event F.Limits o = nothing s who o
  refused s who event F.InCall o = nothing s who o

  by_outcome : (s : State T J) (who : ℕ) (event : Event) (e : Option Fault) (outcome : Outcome) → fault s who event ≡ e → IsOutcome s who event e outcome → Orderly s → Moves s who (called_in s who event outcome) (after s who event outcome)
  by_outcome s who event e (Refused x) is k o = refused s who event x o
  by_outcome s who event (Some x) Running is k o = absurd (cc k)
  by_outcome s who event (Some x) Done is k o = absurd (cc k)
  by_outcome s who event None Running is k o = moving s who event is o
  by_outcome s who event None Done is k o = subst (λ c. Moves s who c (moved s who event)) (done_called s who event) (moving s who event is o)

  -- a step calls the job that it tells, or none, and changes the place of its participant alone
  pub moves_reported : (s : State T J) (who : ℕ) (event : Event) (r : Report) → Orderly s → IsReport s who event r → Moves s who r.called (after s who event r.outcome)
  moves_reported s who event r o is = subst (λ c. Moves s who c (after s who event r.outcome)) (sym is.job) (by_outcome s who event (fault s who event) r.outcome refl is.outcome o)

  -- only a collection that calls calls a job
  no_call : (st : Store T) (phase : Phase) (hand : List (Deferral J)) → collects phase ≡ false → called_by st phase hand ≡ None
  no_call st Idle hand e = refl
  no_call st Look hand e = refl
  no_call st (Publish seen) hand e = refl
  no_call st RepinLook hand e = refl
  no_call st (RepinPublish seen) hand e = refl
  no_call st Seal hand e = refl
  no_call st (Queue seal) hand e = refl
  no_call st ReleaseSeal hand e = refl
  no_call st (ReleaseQueue seal) hand e = refl
  no_call st (Secure n) hand e = refl
  no_call st SecureSeal hand e = refl
  no_call st (SecureQueue seal) hand e = refl
  no_call st Load hand e = refl
  no_call st (Inspect seen at) hand e = refl
  no_call st (Advance seen) hand e = refl
  no_call st (Take answered bags) hand e = refl
  no_call st (Call answered bags seal) hand e = absurd (cc e)

  no_call_in : (s : State T J) (who : ℕ) (outcome : Outcome) → collects (place s who).phase ≡ false → called_in s who Go outcome ≡ None
  no_call_in s who (Refused f) e = refl
  no_call_in s who Running e = no_call s.store (place s who).phase (place s who).hand e
  no_call_in s who Done e = no_call s.store (place s who).phase (place s who).hand e

  begin_none : (s : State T J) (who : ℕ) (op : Op) (outcome : Outcome) → called_in s who (Begin op) outcome ≡ None
  begin_none s who op (Refused f) = refl
  begin_none s who op Running = refl
  begin_none s who op Done = refl

  -- a step of a call that doesn't collect yet calls no job
  pub no_call_yet : (s : State T J) (who : ℕ) (r : Report) → collects (place s who).phase ≡ false → IsReport s who Go r → r.called ≡ None
  no_call_yet s who r e is = is.job ∙ no_call_in s who r.outcome e

  -- a begin calls no job
  pub no_call_begins : (s : State T J) (who : ℕ) (op : Op) (r : Report) → IsReport s who (Begin op) r → r.called ≡ None
  no_call_begins s who op r is = is.job ∙ begin_none s who op r.outcome

  -- a new collector has no calls in flight
  pub opened_rests : (limits : Limits) (roots : ℕ) → IsResting {T = T} {J = J} (opened limits roots)
  opened_rests limits roots = record {
    orderly = record {
      hands = λ q. rw (blank_at limits.participants q) refl;
      bags = λ q. rw (blank_at limits.participants q) (omega arith);
      held = λ q. rw (blank_at limits.participants q) (omega arith);
      sealed = λ b m. absurd (none_in b m);
    };
    idle = λ q. rw (blank_at limits.participants q) refl;
  }

  kept : (s s' : State T J) (who : ℕ) → Moves s who None s' → (place s' who).phase ≡ (place s who).phase → ((op : Op) → IsOn op (place s who) → IsOn op (place s' who)) → KeepsCalls s s' (λ f. 0)
  kept s s' who m same on = record {
    orderly = m.orderly;
    phases = λ q. elim (cases_eq q who) [
      | inl is ↦ rw is same
      | inr ne ↦ ap (λ (p : Participant J). p.phase) (m.others q ne)
    ];
    on = λ q op i. elim (cases_eq q who) [
      | inl is ↦ subst (λ (x : ℕ). IsOn op (place s' x)) (sym is) (on op (subst (λ (x : ℕ). IsOn op (place s x)) is i))
      | inr ne ↦ subst (λ (p : Participant J). IsOn op p) (sym (m.others q ne)) i
    ];
    jobs = λ f. let e = m.jobs.2 f in omega (arith, e);
    store = m.cells;
  }

  -- where a place changes and neither its call nor whether it is held, calls in flight stay so
  stays_on : (s s' : State T J) (who : ℕ) (p : Participant J) → s'.table ≡ slice_set s.table who p → who < length s.table → ((op : Op) → IsOn op (place s who) → IsOn op p) → (q : ℕ) (op : Op) → IsOn op (place s q) → IsOn op (place s' q)
  stays_on s s' who p table lt on q op i = elim (cases_eq q who) [
    | inl is ↦ rw (table, is, get_or-set_same s.table who p blank lt) (on op (subst (λ (x : ℕ). IsOn op (place s x)) is i))
    | inr ne ↦ rw (table, get_or-set_other s.table who q p blank ne) i
  ]

  -- cells and roots may change
  pub orderly_beside : (s s' : State T J) → s'.table ≡ s.table → s'.queue ≡ s.queue → Orderly s → Orderly s'
  orderly_beside s s' table queue o = record {
    hands = λ q. rw table (o.hands q);
    bags = λ q. rw table (o.bags q);
    held = λ q. rw table (o.held q);
    sealed = λ b m. o.sealed b (subst (λ (xs : List (Sealed J)). Contains xs b) queue m);
  }

  -- a registration leaves calls, cells and jobs as they stood
  pub registered_keeps : (s : State T J) (n : ℕ) → n < length s.table → Orderly s → KeepsCalls s (registered s n) (λ f. 0)
  registered_keeps s n lt o =
      let p = record (place s n) { registered = true; pins = 0 } in
      kept s (registered s n) n (stays s n p s.epoch lt o (o.hands n) refl refl) (ap (λ (x : Participant J). x.phase) (get_or-set_same s.table n p blank lt))
      (λ op i. subst (λ (x : Participant J). IsOn op x) (sym (get_or-set_same s.table n p blank lt)) (refl, i.1))

  -- a job that goes into a bag with a place leaves calls and cells, and is the one job more
  pub deferred_keeps : (s : State T J) (who : ℕ) (work : Work J) → who < length s.table → length (place s who).bag < 64 → Orderly s → KeepsCalls s (deferred s who work) (λ f. f (record { ticket = s.next; work = work }))
  deferred_keeps s who work lt room o =
      let old = place s who in
      let entry : Deferral J = record { ticket = s.next; work = work } in
      let p = record old { bag = old.bag ++ entry ∷ [] } in
      record {
        orderly = record {
          hands = λ q. elim (cases_eq q who) [
            | inl is ↦ rw (is, get_or-set_same s.table who p blank lt) (o.hands who)
            | inr ne ↦ rw (get_or-set_other s.table who q p blank ne) (o.hands q)
          ];
          bags = λ q. elim (cases_eq q who) [
            | inl is ↦ rw (is, get_or-set_same s.table who p blank lt) (omega (arith, room, length_push old.bag entry))
            | inr ne ↦ rw (get_or-set_other s.table who q p blank ne) (o.bags q)
          ];
          held = λ q. elim (cases_eq q who) [
            | inl is ↦ rw (is, get_or-set_same s.table who p blank lt) (o.held who)
            | inr ne ↦ rw (get_or-set_other s.table who q p blank ne) (o.held q)
          ];
          sealed = o.sealed;
        };
        phases = λ q. elim (cases_eq q who) [
          | inl is ↦ rw is (ap (λ (x : Participant J). x.phase) (get_or-set_same s.table who p blank lt))
          | inr ne ↦ ap (λ (x : Participant J). x.phase) (get_or-set_other s.table who q p blank ne)
        ];
        on = stays_on s (deferred s who work) who p refl lt (λ op i. i);
        jobs = λ f.
            let set = sum_by-set (at_place f) s.table who p blank lt in
            omega (arith, set, sum_by-append f old.bag (entry ∷ []));
        store = refl;
      }

  -- a full bag is queued, and the job goes into an empty one
  anew_keeps : (s : State T J) (who : ℕ) (work : Work J) → who < length s.table → Orderly s → KeepsCalls s (deferred_anew s who work) (λ f. f (record { ticket = s.next; work = work }))
  anew_keeps s who work lt o =
      let old = place s who in
      let entry : Deferral J = record { ticket = s.next; work = work } in
      let p = record old { bag = entry ∷ [] } in
      let bag : Sealed J = record { seal = s.epoch; jobs = old.bag } in
      record {
        orderly = record {
          hands = λ q. elim (cases_eq q who) [
            | inl is ↦ rw (is, get_or-set_same s.table who p blank lt) (o.hands who)
            | inr ne ↦ rw (get_or-set_other s.table who q p blank ne) (o.hands q)
          ];
          bags = λ q. elim (cases_eq q who) [
            | inl is ↦ rw (is, get_or-set_same s.table who p blank lt) (omega arith)
            | inr ne ↦ rw (get_or-set_other s.table who q p blank ne) (o.bags q)
          ];
          held = λ q. elim (cases_eq q who) [
            | inl is ↦ rw (is, get_or-set_same s.table who p blank lt) (o.held who)
            | inr ne ↦ rw (get_or-set_other s.table who q p blank ne) (o.held q)
          ];
          sealed = small_push s.queue bag o.sealed (o.bags who);
        };
        phases = λ q. elim (cases_eq q who) [
          | inl is ↦ rw is (ap (λ (x : Participant J). x.phase) (get_or-set_same s.table who p blank lt))
          | inr ne ↦ ap (λ (x : Participant J). x.phase) (get_or-set_other s.table who q p blank ne)
        ];
        on = stays_on s (deferred_anew s who work) who p refl lt (λ op i. i);
        jobs = λ f.
            let set = sum_by-set (at_place f) s.table who p blank lt in
            omega (arith, set, sum_by-append (in_bag f) s.queue (bag ∷ []));
        store = refl;
      }

  by_full : (s : State T J) (who : ℕ) (work : Work J) (b : Bool) → (length (place s who).bag == 64) ≡ b → who < length s.table → Orderly s
      → KeepsCalls s (if b then deferred_anew s who work else deferred s who work) (λ f. f (record { ticket = s.next; work = work }))
  by_full s who work true e lt o = anew_keeps s who work lt o
  by_full s who work false e lt o =
      let le = o.bags who in
      let room : length (place s who).bag < 64 = grind (arith, nat_tests) in
      deferred_keeps s who work lt room o

  -- a job that is accepted leaves calls and cells, and is the one job more
  pub deferral_keeps : (s : State T J) (who : ℕ) (work : Work J) → defer_fault s who ≡ None → Orderly s → KeepsCalls s (after_deferral s who work) (λ f. f (record { ticket = s.next; work = work }))
  deferral_keeps s who work e o =
      let k = known_if_faultless (place s who).registered (or_count s.next (quiet_fault (place s who).phase (place s who))) e in
      by_full s who work (length (place s who).bag == 64) refl (in_table s who k.0) o
