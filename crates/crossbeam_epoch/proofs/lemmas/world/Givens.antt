-- A name that was given stays one that was given.
use Rattle.std.proofs.Common.{◌≡◌, ℕ, ◌+◌, ◌≤◌, ◌≢◌, Bool, true, false, [], ◌∷◌, ◌++◌, ◌==◌, Option, Some, None, refl, ap, inl, inr, length, arith, get_or, set, get_or-set_same, get_or-set_other}
use Rattle.std.specs.Prelude.{if◌then◌else◌, is_some, nat_lt, ◌&&◌}
use Rattle.std.proofs.lemmas.Bool.{cases_eq, cases_lt}
use Rattle.std.proofs.lemmas.Bool.Decides.{nat_tests}
use Rattle.std.proofs.lemmas.List.{set_past, get_or_push}
use Rattle.crossbeam_epoch.specs.declared.bag.Work.{Work}
use Rattle.crossbeam_epoch.specs.declared.bag.Work.TheVariants.{Blank, Remove, Run}
use Rattle.crossbeam_epoch.specs.declared.world.cells.Cell.{Cell}
use Rattle.crossbeam_epoch.specs.declared.fault.Fault.TheVariants as F
use Rattle.crossbeam_epoch.specs.declared.names.Name.{Name}
use Rattle.crossbeam_epoch.specs.declared.world.participant.Phase.{Phase}
use Rattle.crossbeam_epoch.specs.declared.world.participant.Phase.TheVariants.{Idle, Look, Publish, RepinLook, RepinPublish, Seal, Queue, ReleaseSeal, ReleaseQueue, Secure, SecureSeal, SecureQueue, Load, Inspect, Advance, Take, Call}
use Rattle.crossbeam_epoch.specs.declared.world.report.Event.{Event}
use Rattle.crossbeam_epoch.specs.declared.world.report.Event.TheVariants.{Begin, Go}
use Rattle.crossbeam_epoch.specs.declared.world.report.Outcome.{Outcome}
use Rattle.crossbeam_epoch.specs.declared.world.report.Outcome.TheVariants.{Running, Done, Refused}
use Rattle.crossbeam_epoch.specs.world.Machine.{State, place, in_phase, is_due, taken, called_one, no_entry, after_work}
use Rattle.crossbeam_epoch.specs.world.Steps.{after, gone, moved, needs_memory}
use Rattle.crossbeam_epoch.specs.world.Store.{Store, fresh, cell_at, value_at, was_given, with_cell, emptied, replaced, placed, IsNext}

module _ {T : Type 0} where
  -- names stay given
  abbrev pub Keeps : Store T → Store T → Type 0
  Keeps st st' = (n : Name) → was_given st n ≡ true → was_given st' n ≡ true

  by_turns : (st st' : Store T) → ((i : ℕ) → (cell_at st i).turns ≤ (cell_at st' i).turns) → Keeps st st'
  by_turns st st' le n given = let more = le n.cell in grind (arith, nat_tests)

  -- a name that isn't destroyed was given
  pub live_given : (st : Store T) (n : Name) → is_some (value_at st n) ≡ true → was_given st n ≡ true
  live_given st n live = by_turn ((cell_at st n.cell).turns == n.turn + 1) refl live
    where
      by_turn : (b : Bool) → ((cell_at st n.cell).turns == n.turn + 1) ≡ b → is_some (if b then (cell_at st n.cell).value else None) ≡ true → was_given st n ≡ true
      by_turn true e is = grind (arith, nat_tests)
      by_turn false e is = absurd (cc is)

  -- the next name of a cell wasn't
  pub next_new : (st : Store T) (n : Name) → IsNext st n → was_given st n ≡ true → ⊥
  next_new st n next given = let turn = next.turn in absurd (grind (arith, nat_tests))

  set_turns : (st : Store T) (i j : ℕ) (v : Option T) → (cell_at (record st { cells = set st.cells i (record { turns = (cell_at st i).turns; value = v }) }) j).turns ≡ (cell_at st j).turns
  set_turns st i j v = elim (cases_eq j i) [
    | inl is ↦ elim (cases_lt i (length st.cells)) [
      | inl lt ↦ rw (is, get_or-set_same st.cells i (record { turns = (cell_at st i).turns; value = v }) fresh lt) refl
      | inr ge ↦ rw (set_past st.cells i (record { turns = (cell_at st i).turns; value = v }) ge) refl
    ]
    | inr ne ↦ rw (get_or-set_other st.cells i j (record { turns = (cell_at st i).turns; value = v }) fresh ne) refl
  ]

  -- a name that was given stays so where a cell is emptied
  pub emptied_keeps : (st : Store T) (i : ℕ) → Keeps st (emptied st i)
  emptied_keeps st i = by_turns st (emptied st i) (λ j. let e = set_turns st i j None in omega (arith, e))

  -- a name that was given stays so where a value is replaced
  pub replaced_keeps : (st : Store T) (i : ℕ) (v : T) → Keeps st (replaced st i v)
  replaced_keeps st i v = by_turns st (replaced st i v) (λ j. let e = set_turns st i j (Some v) in omega (arith, e))

  -- a cell that was made another is that one
  pub cell_itself : (st : Store T) (i : ℕ) (c : Cell T) → i ≤ length st.cells → cell_at (with_cell st i c) i ≡ c
  cell_itself st i c near = by_test (nat_lt i (length st.cells)) refl
    where
      by_test : (b : Bool) → nat_lt i (length st.cells) ≡ b → get_or (if b then set st.cells i c else st.cells ++ c ∷ []) i fresh ≡ c
      by_test true e = get_or-set_same st.cells i c fresh (grind (arith, nat_tests))
      by_test false e = let last : length st.cells ≡ i = grind (arith, nat_tests) in get_or_push st.cells c fresh i last

  -- a name that was given stays so where a value is placed
  pub placed_keeps : (st : Store T) (name : Name) (v : T) → IsNext st name → ((j : ℕ) → j ≢ name.cell → cell_at (placed st name v) j ≡ cell_at st j) → Keeps st (placed st name v)
  placed_keeps st name v next others = by_turns st (placed st name v) (λ j. elim (cases_eq j name.cell) [
    | inl is ↦
        let here : (cell_at (placed st name v) name.cell).turns ≡ name.turn + 1 = ap (λ (c : Cell T). c.turns) (cell_itself st name.cell (record { turns = name.turn + 1; value = Some v }) next.near) in
        let turn = next.turn in
        rw is (omega (arith, here, turn))
    | inr ne ↦ (let same : (cell_at (placed st name v) j).turns ≡ (cell_at st j).turns = ap (λ (c : Cell T). c.turns) (others j ne) in omega (arith, same))
  ])

module _ {T J : Type 0} where
  work_keeps : (st : Store T) (work : Work J) → Keeps st (after_work st work)
  work_keeps st Blank = λ n g. g
  work_keeps st (Run job) = λ n g. g
  work_keeps st (Remove name) = by_standing (is_some (value_at st name))
    where
      by_standing : (b : Bool) → Keeps st (if b then emptied st name.cell else st)
      by_standing true = emptied_keeps st name.cell
      by_standing false = λ n g. g

  by_room : (s : State T J) (who seen : ℕ) (b : Bool) → Keeps s.store (if b then record (in_phase s who (Take (seen + 1) 0)) { epoch = seen + 1 } else in_phase s who (Take seen 0)).store
  by_room s who seen true = λ n g. g
  by_room s who seen false = λ n g. g

  by_due : (s : State T J) (who answered bags : ℕ) (b : Bool) → Keeps s.store (if b then taken s who answered bags else in_phase s who Idle).store
  by_due s who answered bags true = λ n g. g
  by_due s who answered bags false = λ n g. g

  by_empty : (s : State T J) (who answered bags seal : ℕ) (b : Bool) → Keeps s.store (if b then in_phase s who Idle else called_one s who answered bags seal).store
  by_empty s who answered bags seal true = λ n g. g
  by_empty s who answered bags seal false = work_keeps s.store (get_or (place s who).hand 0 no_entry).work

  gone_keeps : (s : State T J) (who : ℕ) (phase : Phase) → Keeps s.store (gone s who phase).store
  gone_keeps s who Idle = λ n g. g
  gone_keeps s who Look = λ n g. g
  gone_keeps s who (Publish seen) = λ n g. g
  gone_keeps s who RepinLook = λ n g. g
  gone_keeps s who (RepinPublish seen) = λ n g. g
  gone_keeps s who Seal = λ n g. g
  gone_keeps s who (Queue seal) = λ n g. g
  gone_keeps s who ReleaseSeal = λ n g. g
  gone_keeps s who (ReleaseQueue seal) = λ n g. g
  gone_keeps s who (Secure n) = λ n g. g
  gone_keeps s who SecureSeal = λ n g. g
  gone_keeps s who (SecureQueue seal) = λ n g. g
  gone_keeps s who Load = λ n g. g
  gone_keeps s who (Inspect seen at) = λ n g. g
  gone_keeps s who (Advance seen) = by_room s who seen (nat_lt seen s.limits.epoch_max)
  gone_keeps s who (Take answered bags) = by_due s who answered bags (is_due s answered && nat_lt bags 8)
  gone_keeps s who (Call answered bags seal) = by_empty s who answered bags seal (length (place s who).hand == 0)

  moved_keeps : (s : State T J) (who : ℕ) (event : Event) → Keeps s.store (moved s who event).store
  moved_keeps s who (Begin op) = λ n g. g
  moved_keeps s who Go = gone_keeps s who (place s who).phase

  by_needs : (s : State T J) (who : ℕ) (b : Bool) → Keeps s.store (if b then in_phase s who Idle else s).store
  by_needs s who true = λ n g. g
  by_needs s who false = λ n g. g

  -- one step
  pub after_keeps : (s : State T J) (who : ℕ) (event : Event) (o : Outcome) → Keeps s.store (after s who event o).store
  after_keeps s who event Running = moved_keeps s who event
  after_keeps s who event Done = moved_keeps s who event
  after_keeps s who event (Refused F.TableFull) = λ n g. g
  after_keeps s who event (Refused F.CellsFull) = λ n g. g
  after_keeps s who event (Refused F.Memory) = by_needs s who (needs_memory event (place s who).phase)
  after_keeps s who event (Refused F.Unpinned) = λ n g. g
  after_keeps s who event (Refused F.Busy) = λ n g. g
  after_keeps s who event (Refused F.Count) = λ n g. g
  after_keeps s who event (Refused F.GuardOut) = λ n g. g
  after_keeps s who event (Refused (F.Registered n)) = λ n g. g
  after_keeps s who event (Refused F.Unknown) = λ n g. g
  after_keeps s who event (Refused F.Foreign) = λ n g. g
  after_keeps s who event (Refused F.Idle) = λ n g. g
  after_keeps s who event (Refused F.Limits) = λ n g. g
  after_keeps s who event (Refused F.InCall) = λ n g. g
