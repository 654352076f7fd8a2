-- Each destruction is told by the act of its step or call.
use Rattle.std.proofs.Common.{◌≡◌, ℕ, ◌+◌, ◌<◌, Bool, true, false, List, [], ◌∷◌, ◌==◌, Option, Some, None, refl, sym, ◌∙◌, ap, subst, inl, inr, length, arith, get_or, set, get_or-set_same, get_or-set_other, ◌++◌, ◌≤◌, ◌≢◌}
use Rattle.std.specs.Prelude.{if◌then◌else◌, is_some, is_none, Result, Ok, Err, IfOk, IfErr, nat_le, nat_lt, slice_index_or, ◌&&◌}
use Rattle.std.proofs.lemmas.Bool.{cases_eq, cases_lt, eq-eqb}
use Rattle.std.proofs.lemmas.List.{get_or_past, get_or_append_left, length_push}
use Rattle.std.proofs.lemmas.Bool.Decides.{nat_tests}
use Rattle.crossbeam_epoch.specs.declared.bag.Work.{Work}
use Rattle.crossbeam_epoch.specs.declared.bag.Work.TheVariants.{Blank, Remove, Run}
use Rattle.crossbeam_epoch.specs.declared.world.cells.Cell.{Cell}
use Rattle.crossbeam_epoch.specs.declared.fault.Fault.{Fault}
use Rattle.crossbeam_epoch.specs.declared.fault.Fault.TheVariants as F
use Rattle.crossbeam_epoch.specs.declared.limits.Limits.{Limits}
use Rattle.crossbeam_epoch.specs.declared.names.Name.{Name}
use Rattle.crossbeam_epoch.specs.declared.names.Ptr.{Ptr}
use Rattle.crossbeam_epoch.specs.declared.world.participant.Participant.{Participant}
use Rattle.crossbeam_epoch.specs.declared.world.participant.Phase.{Phase}
use Rattle.crossbeam_epoch.specs.declared.world.participant.Phase.TheVariants.{Idle, Look, Publish, RepinLook, RepinPublish, Seal, Queue, ReleaseSeal, ReleaseQueue, Secure, SecureSeal, SecureQueue, Load, Inspect, Advance, Take, Call}
use Rattle.crossbeam_epoch.specs.declared.world.report.Event.{Event}
use Rattle.crossbeam_epoch.specs.declared.world.report.Event.TheVariants.{Begin, Go}
use Rattle.crossbeam_epoch.specs.declared.world.report.Op.{Op}
use Rattle.crossbeam_epoch.specs.declared.world.report.Op.TheVariants as O
use Rattle.crossbeam_epoch.specs.declared.world.report.Outcome.{Outcome}
use Rattle.crossbeam_epoch.specs.declared.world.report.Outcome.TheVariants.{Running, Done, Refused}
use Rattle.crossbeam_epoch.specs.declared.world.report.Report.{Report}
use Rattle.crossbeam_epoch.specs.declared.world.report.Step.{Step}
use Rattle.crossbeam_epoch.specs.world.History.{Mark, Unpinned, Deferred}
use Rattle.crossbeam_epoch.specs.world.Machine.{State, place, in_phase, is_due, taken, called_one, no_entry, destroys, after_work, opened, registered, with_store, with_roots, after_deferral, deferred, deferred_anew, name_of}
use Rattle.crossbeam_epoch.specs.world.Store.{Store, fresh, cell_at, value_in, value_at, emptied, replaced, placed, with_cell, is_usable, IsNext, was_given}
use Rattle.crossbeam_epoch.specs.world.Steps.{after, gone, needs_memory, called_by, called_entry, called_in, defer_fault, IsReport, begin_marks, phase_marks, moved_marks, unless_refused, marks, state_after, AreReports}
use Rattle.crossbeam_epoch.specs.world.Fits.{Fits, IsTable}
use Rattle.crossbeam_epoch.specs.world.Reach.{Act, Quiet, Marked, Moment, WasLive, with_act, marks_of, IsDestruction, moment, HasMoments, NextMoment, newest_act, step_act, moments_after, GivenBack}
use Rattle.crossbeam_epoch.proofs.lemmas.world.Runs.{fits_after, fits_opened, fits_registered, fits_store, fits_roots, fits_deferring}
use Rattle.crossbeam_epoch.proofs.lemmas.world.Givens.{Keeps, live_given, emptied_keeps, replaced_keeps, placed_keeps, after_keeps, next_new}
use Rattle.crossbeam_epoch.proofs.lemmas.world.Tables.{table_is, table_after, table_new, table_registered, table_deferral}

unpin_act : (b : Bool) (who : ℕ) (h : List Mark) → with_act (newest_act (if b then Unpinned who ∷ [] else [])) h ≡ (if b then Unpinned who ∷ h else h)
unpin_act true who h = refl
unpin_act false who h = refl

begin_act : {J : Type 0} (who : ℕ) (p : Participant J) (op : Op) (h : List Mark) → with_act (newest_act (begin_marks who p op [])) h ≡ begin_marks who p op h
begin_act who p O.Pin h = refl
begin_act who p O.Unpin h = unpin_act (nat_le p.guards 1) who h
begin_act who p O.Repin h = refl
begin_act who p O.Flush h = refl
begin_act who p O.Release h = refl
begin_act who p (O.Secure n) h = refl

phase_act : (epoch who : ℕ) (phase : Phase) (c : Option (ℕ × Option Name)) (h : List Mark) → with_act (newest_act (phase_marks epoch who phase c [])) h ≡ phase_marks epoch who phase c h
phase_act epoch who phase (Some c) h = refl
phase_act epoch who Idle None h = refl
phase_act epoch who Look None h = refl
phase_act epoch who (Publish seen) None h = refl
phase_act epoch who RepinLook None h = refl
phase_act epoch who (RepinPublish seen) None h = refl
phase_act epoch who Seal None h = refl
phase_act epoch who (Queue seal) None h = refl
phase_act epoch who ReleaseSeal None h = refl
phase_act epoch who (ReleaseQueue seal) None h = refl
phase_act epoch who (Secure n) None h = refl
phase_act epoch who SecureSeal None h = refl
phase_act epoch who (SecureQueue seal) None h = refl
phase_act epoch who Load None h = refl
phase_act epoch who (Inspect seen at) None h = refl
phase_act epoch who (Advance seen) None h = refl
phase_act epoch who (Take answered bags) None h = refl
phase_act epoch who (Call answered bags seal) None h = refl

-- a value stands under one turn
pub turn_of : {T : Type 0} (c : Cell T) (turn : ℕ) → is_some (value_in c turn) ≡ true → c.turns ≡ turn + 1
turn_of c turn is = by_turn (c.turns == turn + 1) refl is
  where
    by_turn : (b : Bool) → (c.turns == turn + 1) ≡ b → is_some (if b then c.value else None) ≡ true → c.turns ≡ turn + 1
    by_turn true e is = grind (arith, nat_tests)
    by_turn false e is = absurd (cc is)

both3 : (a b c : Bool) → (a && b && c) ≡ true → b ≡ true
both3 true true c e = refl
both3 true false true e = absurd (cc e)
both3 true false false e = absurd (cc e)
both3 false b c e = by_rest b c e
  where
    by_rest : (b c : Bool) → (false && b && c) ≡ true → b ≡ true
    by_rest true c e = refl
    by_rest false true e = absurd (cc e)
    by_rest false false e = absurd (cc e)

apart : (j n : ℕ) → n ≤ j → j ≢ n → n < j
apart j n ge ne = elim (cases_lt n j) [ inl lt ↦ lt | inr le ↦ absurd (ne (omega (arith, ge, le))) ]

module _ {T : Type 0} where
  -- whether a name isn't destroyed
  abbrev lives : Store T → Name → Bool
  lives st n = is_some (value_at st n)

  same_ends : {A : Type 0} (st st' : Store T) (n : Name) → st' ≡ st → lives st n ≡ true → lives st' n ≡ false → A
  same_ends st st' n is live gone = absurd (cc (live, ap (λ (x : Store T). lives x n) is, gone))

  -- a cell that is emptied takes one name with it
  emptied_gone : (st : Store T) (name n : Name) → is_some (value_at st name) ≡ true → is_some (value_at st n) ≡ true → is_some (value_at (emptied st name.cell) n) ≡ false → name ≡ n
  emptied_gone st name n stood live gone = elim (cases_eq n.cell name.cell) [
    | inl is ↦
        let a = turn_of (cell_at st name.cell) name.turn stood in
        let b = turn_of (cell_at st n.cell) n.turn live in
        let c : (cell_at st n.cell).turns ≡ (cell_at st name.cell).turns = ap (λ (i : ℕ). (cell_at st i).turns) is in
        let turn : name.turn ≡ n.turn = omega (arith, a, b, c) in
        (λ k. record { cell = sym is k; turn = turn k })
    | inr ne ↦
        let same : cell_at (emptied st name.cell) n.cell ≡ cell_at st n.cell = get_or-set_other st.cells name.cell n.cell (record { turns = (cell_at st name.cell).turns; value = None }) fresh ne in
        absurd (cc (live, ap (λ (c : Cell T). is_some (value_in c n.turn)) same, gone))
  ]

  -- a cell that has a value isn't usable
  pub usable_empty : (st : Store T) (i : ℕ) → is_usable st i ≡ true → (cell_at st i).value ≡ None
  usable_empty st i is = by_value (cell_at st i).value refl
    where
      by_value : (o : Option T) → (cell_at st i).value ≡ o → o ≡ None
      by_value None e = refl
      by_value (Some v) e = absurd (cc (both3 (nat_lt i st.most) (is_none (cell_at st i).value) (nat_le (cell_at st i).turns st.turn_max) is, ap is_none e))

  value_of_none : (c : Cell T) (turn : ℕ) → c.value ≡ None → is_some (value_in c turn) ≡ false
  value_of_none c turn e = by_turn (c.turns == turn + 1)
    where
      by_turn : (b : Bool) → is_some (if b then c.value else None) ≡ false
      by_turn true = ap is_some e
      by_turn false = refl

  -- one cell changes, the others don't
  pub cell_with : (st : Store T) (i j : ℕ) (c : Cell T) → i ≤ length st.cells → j ≢ i → cell_at (with_cell st i c) j ≡ cell_at st j
  cell_with st i j c near ne = elim (cases_lt i (length st.cells)) [
    | inl lt ↦
        let yes : nat_lt i (length st.cells) ≡ true = grind (arith, nat_tests) in
        (ap (λ (b : Bool). get_or (if b then set st.cells i c else st.cells ++ c ∷ []) j fresh) yes ∙ get_or-set_other st.cells i j c fresh ne)
    | inr ge ↦
        let not_in : nat_lt i (length st.cells) ≡ false = grind (arith, nat_tests) in
        let last : i ≡ length st.cells = omega (arith, near, ge) in
        (ap (λ (b : Bool). get_or (if b then set st.cells i c else st.cells ++ c ∷ []) j fresh) not_in ∙ by_side j (λ e. ne (e ∙ sym last)))
  ]
    where
      by_side : (j : ℕ) → j ≢ length st.cells → get_or (st.cells ++ c ∷ []) j fresh ≡ get_or st.cells j fresh
      by_side j ne = elim (cases_lt j (length st.cells)) [
        | inl lt ↦ get_or_append_left st.cells (c ∷ []) fresh j lt
        | inr ge ↦
            let l = length_push st.cells c in
            (get_or_past (st.cells ++ c ∷ []) j fresh (omega (arith, l, ge, apart j (length st.cells) ge ne)) ∙ sym (get_or_past st.cells j fresh ge))
      ]

  -- a value that is placed destroys none
  placed_lives : (st : Store T) (name n : Name) (v : T) → IsNext st name → lives st n ≡ true → lives (placed st name v) n ≡ true
  placed_lives st name n v next live = elim (cases_eq n.cell name.cell) [
    | inl is ↦ absurd (cc (live, value_of_none (cell_at st n.cell) n.turn (ap (λ (i : ℕ). (cell_at st i).value) is ∙ usable_empty st name.cell next.usable)))
    | inr ne ↦ (ap (λ (c : Cell T). is_some (value_in c n.turn)) (cell_with st name.cell n.cell (record { turns = name.turn + 1; value = Some v }) next.near ne) ∙ live)
  ]

  -- a value that is replaced stands under the same name
  replaced_lives : (st : Store T) (i : ℕ) (n : Name) (v : T) → lives st n ≡ true → lives (replaced st i v) n ≡ true
  replaced_lives st i n v live = elim (cases_eq n.cell i) [
    | inl is ↦ elim (cases_lt i (length st.cells)) [
      | inl lt ↦
          let turn = turn_of (cell_at st n.cell) n.turn live in
          let here : cell_at (replaced st i v) n.cell ≡ record { turns = (cell_at st i).turns; value = Some v } = ap (λ (j : ℕ). cell_at (replaced st i v) j) is ∙ get_or-set_same st.cells i (record { turns = (cell_at st i).turns; value = Some v }) fresh lt in
          let same : ((cell_at st i).turns == n.turn + 1) ≡ true = eq-eqb (cell_at st i).turns (n.turn + 1) (sym (ap (λ (j : ℕ). (cell_at st j).turns) is) ∙ turn) in
          (ap (λ (c : Cell T). is_some (value_in c n.turn)) here ∙ ap (λ (b : Bool). is_some (if b then Some v else None)) same)
      | inr ge ↦
          let past : cell_at st n.cell ≡ fresh = ap (λ (j : ℕ). cell_at st j) is ∙ get_or_past st.cells i fresh ge in
          absurd (cc (live, value_of_none (cell_at st n.cell) n.turn (ap (λ (c : Cell T). c.value) past)))
    ]
    | inr ne ↦ (ap (λ (c : Cell T). is_some (value_in c n.turn)) (get_or-set_other st.cells i n.cell (record { turns = (cell_at st i).turns; value = Some v }) fresh ne) ∙ live)
  ]

module _ {T J : Type 0} where
  -- the act of a step marks what the step marks
  pub marks_act : (s : State T J) (who : ℕ) (event : Event) (r : Report) (h : List Mark) → with_act (step_act s who event r) h ≡ marks s who event r h
  marks_act s who event r h = by_outcome r.outcome
    where
      by_event : (event : Event) → with_act (newest_act (moved_marks s who event r.called [])) h ≡ moved_marks s who event r.called h
      by_event (Begin op) = begin_act who (place s who) op h
      by_event Go = phase_act s.epoch who (place s who).phase r.called h

      by_outcome : (o : Outcome) → with_act (newest_act (unless_refused o (moved_marks s who event r.called []) [])) h ≡ unless_refused o (moved_marks s who event r.called h) h
      by_outcome (Refused f) = refl
      by_outcome Running = by_event event
      by_outcome Done = by_event event

  by_needs : (s : State T J) (who : ℕ) (b : Bool) → (if b then in_phase s who Idle else s).store ≡ s.store
  by_needs s who true = refl
  by_needs s who false = refl

  refused_store : (s : State T J) (who : ℕ) (event : Event) (f : Fault) → (after s who event (Refused f)).store ≡ s.store
  refused_store s who event F.TableFull = refl
  refused_store s who event F.CellsFull = refl
  refused_store s who event F.Memory = by_needs s who (needs_memory event (place s who).phase)
  refused_store s who event F.Unpinned = refl
  refused_store s who event F.Busy = refl
  refused_store s who event F.Count = refl
  refused_store s who event F.GuardOut = refl
  refused_store s who event (F.Registered n) = refl
  refused_store s who event F.Unknown = refl
  refused_store s who event F.Foreign = refl
  refused_store s who event F.Idle = refl
  refused_store s who event F.Limits = refl
  refused_store s who event F.InCall = refl

  by_room : (s : State T J) (who seen : ℕ) (b : Bool) → (if b then record (in_phase s who (Take (seen + 1) 0)) { epoch = seen + 1 } else in_phase s who (Take seen 0)).store ≡ s.store
  by_room s who seen true = refl
  by_room s who seen false = refl

  by_due : (s : State T J) (who answered bags : ℕ) (b : Bool) → (if b then taken s who answered bags else in_phase s who Idle).store ≡ s.store
  by_due s who answered bags true = refl
  by_due s who answered bags false = refl

  -- a job that destroys a cell is the removal of its name
  work_ends : (st : Store T) (work : Work J) (n : Name) → lives st n ≡ true → lives (after_work st work) n ≡ false → destroys st work ≡ Some n
  work_ends st Blank n live gone = absurd (cc (live, gone))
  work_ends st (Run job) n live gone = absurd (cc (live, gone))
  work_ends st (Remove name) n live gone = by_standing (lives st name) refl gone
    where
      by_standing : (b : Bool) → lives st name ≡ b → lives (if b then emptied st name.cell else st) n ≡ false → (if b then Some name else None) ≡ Some n
      by_standing true stood gone = ap Some (emptied_gone st name n stood live gone)
      by_standing false stood gone = absurd (cc (live, gone))

  by_empty : (s : State T J) (who answered bags seal : ℕ) (n : Name) (b : Bool) → lives s.store n ≡ true
      → lives (if b then in_phase s who Idle else called_one s who answered bags seal).store n ≡ false
      → IsDestruction (newest_act (phase_marks s.epoch who (Call answered bags seal) (if b then None else Some (called_entry s.store (slice_index_or (place s who).hand 0 no_entry))) [])) n
  by_empty s who answered bags seal n true live gone = absurd (cc (live, gone))
  by_empty s who answered bags seal n false live gone = work_ends s.store (slice_index_or (place s who).hand 0 no_entry).work n live gone

  going_ends : (s : State T J) (who : ℕ) (phase : Phase) (n : Name) → lives s.store n ≡ true → lives (gone s who phase).store n ≡ false → IsDestruction (newest_act (phase_marks s.epoch who phase (called_by s.store phase (place s who).hand) [])) n
  going_ends s who Idle n live gone = absurd (cc (live, gone))
  going_ends s who Look n live gone = absurd (cc (live, gone))
  going_ends s who (Publish seen) n live gone = absurd (cc (live, gone))
  going_ends s who RepinLook n live gone = absurd (cc (live, gone))
  going_ends s who (RepinPublish seen) n live gone = absurd (cc (live, gone))
  going_ends s who Seal n live gone = absurd (cc (live, gone))
  going_ends s who (Queue seal) n live gone = absurd (cc (live, gone))
  going_ends s who ReleaseSeal n live gone = absurd (cc (live, gone))
  going_ends s who (ReleaseQueue seal) n live gone = absurd (cc (live, gone))
  going_ends s who (Secure m) n live gone = absurd (cc (live, gone))
  going_ends s who SecureSeal n live gone = absurd (cc (live, gone))
  going_ends s who (SecureQueue seal) n live gone = absurd (cc (live, gone))
  going_ends s who Load n live gone = absurd (cc (live, gone))
  going_ends s who (Inspect seen at) n live gone = absurd (cc (live, gone))
  going_ends s who (Advance seen) n live gone' = same_ends s.store (gone s who (Advance seen)).store n (by_room s who seen (nat_lt seen s.limits.epoch_max)) live gone'
  going_ends s who (Take answered bags) n live gone' = same_ends s.store (gone s who (Take answered bags)).store n (by_due s who answered bags (is_due s answered && nat_lt bags 8)) live gone'
  going_ends s who (Call answered bags seal) n live gone = by_empty s who answered bags seal n (length (place s who).hand == 0) live gone

  moved_ends : (s : State T J) (who : ℕ) (event : Event) (n : Name) (o : Outcome) → called_in s who event o ≡ called_in s who event Running → lives s.store n ≡ true → lives (after s who event Running).store n ≡ false
      → IsDestruction (newest_act (moved_marks s who event (called_in s who event o) [])) n
  moved_ends s who (Begin op) n o e live gone = absurd (cc (live, gone))
  moved_ends s who Go n o e live gone = rw e (going_ends s who (place s who).phase n live gone)

  outcome_ends : (s : State T J) (who : ℕ) (event : Event) (n : Name) (o : Outcome) → lives s.store n ≡ true → lives (after s who event o).store n ≡ false
      → IsDestruction (newest_act (unless_refused o (moved_marks s who event (called_in s who event o) []) [])) n
  outcome_ends s who event n (Refused f) live gone = same_ends s.store (after s who event (Refused f)).store n (refused_store s who event f) live gone
  outcome_ends s who event n Running live gone = moved_ends s who event n Running refl live gone
  outcome_ends s who event n Done live gone = moved_ends s who event n Done (by_event event) live gone
    where
      by_event : (event : Event) → called_in s who event Done ≡ called_in s who event Running
      by_event (Begin op) = refl
      by_event Go = refl

  step_ends : (s : State T J) (who : ℕ) (event : Event) (r : Report) (n : Name) → IsReport s who event r → lives s.store n ≡ true → lives (after s who event r.outcome).store n ≡ false → IsDestruction (step_act s who event r) n
  step_ends s who event r n is live gone =
      subst (λ c. IsDestruction (newest_act (unless_refused r.outcome (moved_marks s who event c []) [])) n) (sym is.job) (outcome_ends s who event n r.outcome live gone)

  -- a call or a step tells what it destroys
  pub tells_act : (names : T → List Name) (h : List Moment) (s s' : State T J) (act : Act) → HasMoments names h s → Fits (with_act act (marks_of h)) s'
      → ((n : Name) → is_some (value_at s.store n) ≡ true → is_some (value_at s'.store n) ≡ false → IsDestruction act n) → IsTable s'.limits.participants s'.table → Keeps s.store s'.store → HasMoments names (moment names act s' ∷ h) s'
  tells_act names [] s s' act t f ends table keeps = absurd t.now
  tells_act names (b ∷ h) s s' act t f ends table keeps = record {
    fits = f;
    now = (refl, λ n. refl, λ n. refl);
    ends = ((λ n live gone. ends n (sym (t.now.1 n) ∙ live) gone), t.ends);
    table = table;
    given = λ n was. elim was [ inl now ↦ live_given s'.store n now | inr before ↦ keeps n (t.given n before) ];
  }

  -- the moments with that of a step lead to the state after it
  pub tells_after : (names : T → List Name) (h : List Moment) (s : State T J) (who : ℕ) (event : Event) (r : Report) → IsReport s who event r → HasMoments names h s
      → HasMoments names (moment names (step_act s who event r) (after s who event r.outcome) ∷ h) (after s who event r.outcome)
  tells_after names h s who event r is t =
      tells_act names h s (after s who event r.outcome) (step_act s who event r) t
      (subst (λ g. Fits g (after s who event r.outcome)) (sym (marks_act s who event r (marks_of h))) (fits_after (marks_of h) s who event r is t.fits))
      (λ n live gone. step_ends s who event r n is live gone)
      (table_after s who event r is t.table) (after_keeps s who event r.outcome)

  -- the moments with those of a run lead to the state after it
  pub tells_run : (names : T → List Name) (h : List Moment) (s : State T J) (steps : List Step) (reports : List Report) → AreReports s steps reports → HasMoments names h s → HasMoments names (moments_after names s steps reports h) (state_after s steps reports)
  tells_run names h s [] [] are t = t
  tells_run names h s [] (r ∷ reports) are t = absurd are
  tells_run names h s (step ∷ steps) [] are t = t
  tells_run names h s (step ∷ steps) (r ∷ reports) are t =
      tells_run names (moment names (step_act s step.who step.event r) (after s step.who step.event r.outcome) ∷ h) (after s step.who step.event r.outcome) steps reports are.1
      (tells_after names h s step.who step.event r are.0 t)

  -- one quiet moment leads to a new collector
  pub tells_opened : (names : T → List Name) (limits : Limits) (roots : ℕ) (s : State T J) → s ≡ opened limits roots → limits.expiry ≡ 2 → HasMoments names (moment names Quiet s ∷ []) s
  tells_opened names limits roots s is two = rw is (record { fits = fits_opened limits roots (omega (arith, two)); now = (refl, λ n. refl, λ n. refl); ends = tt; table = table_new limits.participants; given = λ n was. elim was [ inl now ↦ live_given (opened {T = T} {J = J} limits roots).store n now | inr before ↦ absurd before ] })

  -- a call that leaves the cells as they are
  tells_same : (names : T → List Name) (h : List Moment) (s s' : State T J) (act : Act) → HasMoments names h s → Fits (with_act act (marks_of h)) s' → s'.store ≡ s.store → IsTable s'.limits.participants s'.table → HasMoments names (moment names act s' ∷ h) s'
  tells_same names h s s' act t f same table = tells_act names h s s' act t f (λ n live gone. same_ends s.store s'.store n same live gone) table (λ n given. ap (λ (x : Store T). was_given x n) same ∙ given)

  -- a call that changes nothing
  pub tells_still : (names : T → List Name) (s s' : State T J) → s' ≡ s → NextMoment names Quiet s s'
  tells_still names s s' is = λ h t. tells_same names h s s' Quiet t (rw is t.fits) (ap (λ (x : State T J). x.store) is) (table_is s' s is t.table)

  -- a quiet moment leads over a registration
  pub tells_registered : (names : T → List Name) (s s' : State T J) (n : ℕ) → s' ≡ registered s n → n < length s.table → NextMoment names Quiet s s'
  tells_registered names s s' n is lt = λ h t. tells_same names h s s' Quiet t (rw is (fits_registered (marks_of h) s n lt t.fits)) (ap (λ (x : State T J). x.store) is) (table_is s' (registered s n) is (table_registered s n t.table))

  deferral_store : (s : State T J) (who : ℕ) (work : Work J) → (after_deferral s who work).store ≡ s.store
  deferral_store s who work = by_full (length (place s who).bag == 64)
    where
      by_full : (b : Bool) → (if b then deferred_anew s who work else deferred s who work).store ≡ s.store
      by_full true = refl
      by_full false = refl

  -- a moment that marks a job's deferral leads over it
  pub tells_deferred : (names : T → List Name) (s s' : State T J) (who k : ℕ) (work : Work J) → s' ≡ after_deferral s who work → k ≡ s.next → defer_fault s who ≡ None → NextMoment names (Marked (Deferred k (name_of work))) s s'
  tells_deferred names s s' who k work is ticket none = λ h t.
      tells_same names h s s' (Marked (Deferred k (name_of work))) t (rw (ticket, is) (fits_deferring (marks_of h) s who work none t.fits))
      (ap (λ (x : State T J). x.store) is ∙ deferral_store s who work) (table_is s' (after_deferral s who work) is (table_deferral s who work none t.table))

  -- a quiet moment leads over a change of the roots
  pub tells_roots : (names : T → List Name) (s s' : State T J) (roots : List Ptr) → s' ≡ with_roots s roots → NextMoment names Quiet s s'
  tells_roots names s s' roots is = λ h t. tells_same names h s s' Quiet t (rw is (fits_roots (marks_of h) s roots t.fits)) (ap (λ (x : State T J). x.store) is) (table_is s' (with_roots s roots) is t.table)

  -- a root is written
  pub tells_write : (names : T → List Name) (s v : State T J) (roots : List Ptr) → v ≡ s → NextMoment names Quiet s (with_roots v roots)
  tells_write names s v roots is = subst (λ (x : State T J). NextMoment names Quiet x (with_roots v roots)) is (tells_roots names v (with_roots v roots) roots refl)

  placed_told : (names : T → List Name) (s : State T J) (name : Name) (x : T) → IsNext s.store name → NextMoment names Quiet s (with_store s (placed s.store name x))
  placed_told names s name x next = λ h t.
      tells_act names h s (with_store s (placed s.store name x)) Quiet t (fits_store (marks_of h) s (with_store s (placed s.store name x)) refl t.fits)
      (λ n live gone. absurd (cc (placed_lives s.store name n x next live, gone)))
      t.table (placed_keeps s.store name x next (λ j ne. cell_with s.store name.cell j (record { turns = name.turn + 1; value = Some x }) next.near ne))

  given_back_told : (names : T → List Name) (s : State T J) (name : Name) (x : T) → value_at s.store name ≡ Some x → NextMoment names (GivenBack name) s (with_store s (emptied s.store name.cell))
  given_back_told names s name x stood = λ h t.
      tells_act names h s (with_store s (emptied s.store name.cell)) (GivenBack name) t (fits_store (marks_of h) s (with_store s (emptied s.store name.cell)) refl t.fits)
      (λ n live gone. emptied_gone s.store name n (ap is_some stood) live gone) t.table (emptied_keeps s.store name.cell)

  replaced_told : (names : T → List Name) (s : State T J) (i : ℕ) (x : T) → NextMoment names Quiet s (with_store s (replaced s.store i x))
  replaced_told names s i x = λ h t.
      tells_act names h s (with_store s (replaced s.store i x)) Quiet t (fits_store (marks_of h) s (with_store s (replaced s.store i x)) refl t.fits)
      (λ n live gone. absurd (cc (replaced_lives s.store i n x live, gone))) t.table (replaced_keeps s.store i x)

  -- the cells change as they say, and nothing else
  at_store : (names : T → List Name) (s v : State T J) (act : Act) (st st' : Store T) → v ≡ s → st' ≡ st → NextMoment names act v (with_store v st) → NextMoment names act s (with_store v st')
  at_store names s v act st st' is same on = subst (λ (x : State T J). NextMoment names act x (with_store v st')) is (subst (λ (x : Store T). NextMoment names act v (with_store v x)) (sym same) on)

  still_told : (names : T → List Name) (s : State T J) → NextMoment names Quiet s s
  still_told names s = tells_still names s s refl

  -- a quiet moment leads over the placing of a value, whether it found a cell or not
  pub tells_placed : (names : T → List Name) (s v : State T J) (st : Store T) (x : T) (r : Result Name T) → v ≡ s → IfOk r (λ name. IsNext v.store name × (st ≡ placed v.store name x)) → IfErr r (λ y. (y ≡ x) × (st ≡ v.store)) → NextMoment names Quiet s (with_store v st)
  tells_placed names s v st x (Ok name) is on back = at_store names s v Quiet (placed v.store name x) st is on.1 (placed_told names v name x on.0)
  tells_placed names s v st x (Err y) is on back = at_store names s v Quiet v.store st is back.1 (still_told names v)

  -- a moment that tells what is given back leads over it
  pub tells_given_back : (names : T → List Name) (s v : State T J) (st : Store T) (name : Name) (x : T) → v ≡ s → Some x ≡ value_at v.store name → st ≡ (if is_some (value_at v.store name) then emptied v.store name.cell else v.store) → NextMoment names (GivenBack name) s (with_store v st)
  tells_given_back names s v st name x is stood cells =
      at_store names s v (GivenBack name) (emptied v.store name.cell) st is (cells ∙ sym (ap (λ (o : Option T). if is_some o then emptied v.store name.cell else v.store) stood)) (given_back_told names v name x (sym stood))

  -- a quiet moment leads over giving back what is already destroyed
  pub tells_none_back : (names : T → List Name) (s v : State T J) (st : Store T) (name : Name) → v ≡ s → None ≡ value_at v.store name → st ≡ (if is_some (value_at v.store name) then emptied v.store name.cell else v.store) → NextMoment names Quiet s (with_store v st)
  tells_none_back names s v st name is none cells =
      at_store names s v Quiet v.store st is (cells ∙ sym (ap (λ (o : Option T). if is_some o then emptied v.store name.cell else v.store) none)) (still_told names v)

  -- a quiet moment leads over the replacing of a value, whether one stood there or not
  pub tells_replaced : (names : T → List Name) (s v : State T J) (st : Store T) (name : Name) (x : T) (r : Result T T) → v ≡ s → IfOk r (λ y. (value_at v.store name ≡ Some y) × (st ≡ replaced v.store name.cell x)) → IfErr r (λ y. (value_at v.store name ≡ None) × (y ≡ x) × (st ≡ v.store)) → NextMoment names Quiet s (with_store v st)
  tells_replaced names s v st name x (Ok y) is on back = at_store names s v Quiet (replaced v.store name.cell x) st is on.1 (replaced_told names v name.cell x)
  tells_replaced names s v st name x (Err y) is on back = at_store names s v Quiet v.store st is back.2 (still_told names v)

  -- a name that is placed was never live before
  pub placed_new : (names : T → List Name) (s : State T J) (name : Name) → IsNext s.store name → (h : List Moment) → HasMoments names h s → WasLive h name → ⊥
  placed_new names s name next = λ h t was. next_new s.store name next (t.given name was)
