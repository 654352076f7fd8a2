-- The destruction of a name is told once at most.
use Rattle.std.proofs.Common.{◌≡◌, ◌≢◌, ℕ, ◌+◌, ◌≤◌, Bool, true, false, List, [], ◌∷◌, ◌==◌, ◌&&◌, Option, Some, None, refl, sym, ◌∙◌, ap, subst, inl, inr, ◌⊎◌, arith}
use Rattle.std.specs.Prelude.{if◌then◌else◌, is_some, nat_le}
use Rattle.std.proofs.lemmas.Bool.{cases_eq, eq-eqb, ne_eqb}
use Rattle.std.proofs.lemmas.List.{get_or_past}
use Rattle.crossbeam_epoch.specs.declared.world.cells.Cell.{Cell}
use Rattle.crossbeam_epoch.specs.declared.names.Name.{Name}
use Rattle.crossbeam_epoch.specs.declared.world.participant.Participant.{Participant}
use Rattle.crossbeam_epoch.specs.declared.world.participant.Phase.{Phase}
use Rattle.crossbeam_epoch.specs.declared.world.participant.Phase.TheVariants as P
use Rattle.crossbeam_epoch.specs.declared.world.report.Op.{Op}
use Rattle.crossbeam_epoch.specs.declared.world.report.Op.TheVariants as O
use Rattle.crossbeam_epoch.specs.declared.world.report.Event.{Event}
use Rattle.crossbeam_epoch.specs.declared.world.report.Event.TheVariants.{Begin, Go}
use Rattle.crossbeam_epoch.specs.declared.world.report.Outcome.{Outcome}
use Rattle.crossbeam_epoch.specs.declared.world.report.Outcome.TheVariants.{Running, Done, Refused}
use Rattle.crossbeam_epoch.specs.declared.world.report.Report.{Report}
use Rattle.crossbeam_epoch.specs.declared.world.report.Step.{Step}
use Rattle.crossbeam_epoch.specs.world.History.{Mark, Unpinned}
use Rattle.crossbeam_epoch.specs.world.Machine.{State, place}
use Rattle.crossbeam_epoch.specs.world.Progress.{Orderly, Moves, EmptiesAt, Empties}
use Rattle.crossbeam_epoch.specs.world.Steps.{begin_marks, phase_marks, moved_marks, unless_refused, after, marks, history_after, state_after, AreReports, IsReport}
use Rattle.crossbeam_epoch.specs.world.Store.{Store, fresh, cell_at, value_in, value_at, was_given, IsNext, Sets, placed, emptied, replaced, opened_store}
use Rattle.crossbeam_epoch.specs.world.Sealing.{is_name, counts_name, destructions, bit, DestroyedOnce}
use Rattle.crossbeam_epoch.proofs.lemmas.world.CellWrites.{placed_sets, emptied_sets, replaced_sets}
use Rattle.crossbeam_epoch.proofs.lemmas.world.Givens.{live_given}
use Rattle.crossbeam_epoch.proofs.lemmas.world.Progress.{moves_reported}

one_name : (m n : Name) → m ≡ n → is_name m n ≡ true
one_name m n e =
    let c : (m.cell == n.cell) ≡ true = eq-eqb m.cell n.cell (ap (λ x. x.cell) e) in
    let t : (m.turn == n.turn) ≡ true = eq-eqb m.turn n.turn (ap (λ x. x.turn) e) in
    (λ k. c k && t k)

two_names : (m n : Name) → (m.cell ≡ n.cell → m.turn ≡ n.turn → ⊥) → is_name m n ≡ false
two_names m n ne = elim (cases_eq m.cell n.cell) [
  | inl c ↦ (ap (λ (b : Bool). b && (m.turn == n.turn)) (eq-eqb m.cell n.cell c) ∙ ne_eqb m.turn n.turn (ne c))
  | inr far ↦ ap (λ (b : Bool). b && (m.turn == n.turn)) (ne_eqb m.cell n.cell far)
]

abbrev Same : Name → Name → Type 0
Same m n = (m ≡ n) ⊎ (m ≢ n)

same_or : (m n : Name) → Same m n
same_or m n = elim (cases_eq m.cell n.cell) [
  | inl c ↦ elim (cases_eq m.turn n.turn) [
    | inl t ↦ inl (ap (λ i. record { cell = i; turn = m.turn }) c ∙ ap (λ i. record { cell = n.cell; turn = i }) t)
    | inr far ↦ inr (λ e. far (ap (λ x. x.turn) e))
  ]
  | inr far ↦ inr (λ e. far (ap (λ x. x.cell) e))
]

named_apart : (m n : Name) → m ≢ n → is_name m n ≡ false
named_apart m n ne = two_names m n (λ c t. ne (ap (λ i. record { cell = i; turn = m.turn }) c ∙ ap (λ i. record { cell = n.cell; turn = i }) t))

-- what a called job told
abbrev told_by : Option (ℕ × Option Name) → Name → ℕ
told_by None n = 0
told_by (Some c) n = counts_name c.1 n

unpin_tells : (who : ℕ) (h : List Mark) (n : Name) (b : Bool) → destructions (if b then Unpinned who ∷ h else h) n ≤ destructions h n
unpin_tells who h n true = omega arith
unpin_tells who h n false = omega arith

begin_tells : {J : Type 0} (who : ℕ) (p : Participant J) (op : Op) (h : List Mark) (n : Name) → destructions (begin_marks who p op h) n ≤ destructions h n
begin_tells who p O.Unpin h n = unpin_tells who h n (nat_le p.guards 1)
begin_tells who p O.Pin h n = omega arith
begin_tells who p O.Repin h n = omega arith
begin_tells who p O.Flush h n = omega arith
begin_tells who p O.Release h n = omega arith
begin_tells who p (O.Secure k) h n = omega arith

phase_tells : (epoch who : ℕ) (phase : Phase) (c : Option (ℕ × Option Name)) (h : List Mark) (n : Name) → destructions (phase_marks epoch who phase c h) n ≤ told_by c n + destructions h n
phase_tells epoch who phase (Some c) h n = omega arith
phase_tells epoch who (P.Publish seen) None h n = omega arith
phase_tells epoch who (P.RepinPublish seen) None h n = omega arith
phase_tells epoch who P.Idle None h n = omega arith
phase_tells epoch who P.Look None h n = omega arith
phase_tells epoch who P.RepinLook None h n = omega arith
phase_tells epoch who P.Seal None h n = omega arith
phase_tells epoch who (P.Queue seal) None h n = omega arith
phase_tells epoch who P.ReleaseSeal None h n = omega arith
phase_tells epoch who (P.ReleaseQueue seal) None h n = omega arith
phase_tells epoch who (P.Secure k) None h n = omega arith
phase_tells epoch who P.SecureSeal None h n = omega arith
phase_tells epoch who (P.SecureQueue seal) None h n = omega arith
phase_tells epoch who P.Load None h n = omega arith
phase_tells epoch who (P.Inspect seen at) None h n = omega arith
phase_tells epoch who (P.Advance seen) None h n = omega arith
phase_tells epoch who (P.Take answered bags) None h n = omega arith
phase_tells epoch who (P.Call answered bags seal) None h n = omega arith

module _ {T J : Type 0} where
  moved_tells : (s : State T J) (who : ℕ) (event : Event) (c : Option (ℕ × Option Name)) (h : List Mark) (n : Name) → destructions (moved_marks s who event c h) n ≤ told_by c n + destructions h n
  moved_tells s who (Begin op) c h n = let less = begin_tells who (place s who) op h n in omega (arith, less)
  moved_tells s who Go c h n = phase_tells s.epoch who (place s who).phase c h n

  step_tells : (s : State T J) (who : ℕ) (event : Event) (o : Outcome) (c : Option (ℕ × Option Name)) (h : List Mark) (n : Name) → destructions (unless_refused o (moved_marks s who event c h) h) n ≤ told_by c n + destructions h n
  step_tells s who event (Refused f) c h n = omega arith
  step_tells s who event Running c h n = moved_tells s who event c h n
  step_tells s who event Done c h n = moved_tells s who event c h n

at_most : (b : Bool) → bit b ≤ 1
at_most true = omega arith
at_most false = omega arith

module _ {T : Type 0} where
  abbrev alive : Store T → Name → ℕ
  alive st n = bit (is_some (value_at st n))

  at_same : (h : List Mark) (st st' : Store T) → st' ≡ st → DestroyedOnce h st → DestroyedOnce h st'
  at_same h st st' e t = rw e t

  -- a cell that is emptied, and told so
  told_gone : (h : List Mark) (st : Store T) (m n : Name) → is_some (value_at st m) ≡ true → DestroyedOnce h st → (counts_name (Some m) n + destructions h n) + alive (emptied st m.cell) n ≤ bit (was_given (emptied st m.cell) n)
  told_gone h st m n live t =
      let sets : Sets st m None (emptied st m.cell) = emptied_sets st m live in
      elim (same_or n m) [
        | inl is ↦ (
            let P : Name → Type 0 = λ x. (counts_name (Some m) x + destructions h x) + alive (emptied st m.cell) x ≤ bit (was_given (emptied st m.cell) x) in
            let here : bit (is_name m m) ≡ 1 = ap bit (one_name m m refl) in
            let was : alive st m ≡ 1 = ap bit live in
            let none : alive (emptied st m.cell) m ≡ 0 = ap (λ (v : Option T). bit (is_some v)) sets.value in
            let given : bit (was_given (emptied st m.cell) m) ≡ 1 = ap bit sets.used in
            let old : bit (was_given st m) ≡ 1 = ap bit (live_given st m live) in
            let le = t m in
            subst P (sym is) (omega (arith, here, was, none, given, old, le)))
        | inr ne ↦ (
            let here : bit (is_name m n) ≡ 0 = ap bit (named_apart m n (λ e. ne (sym e))) in
            let same : alive (emptied st m.cell) n ≡ alive st n = ap (λ (v : Option T). bit (is_some v)) (sets.others n ne) in
            let given : bit (was_given (emptied st m.cell) n) ≡ bit (was_given st n) = ap bit (sets.given n ne) in
            let le = t n in
            omega (arith, here, same, given, le))
      ]

  -- a name that is placed was told of never
  at_set : (h : List Mark) (st st' : Store T) (m : Name) (v : T) → Sets st m (Some v) st' → destructions h m ≡ 0 → DestroyedOnce h st → DestroyedOnce h st'
  at_set h st st' m v sets none t = λ n. elim (same_or n m) [
    | inl is ↦ (
        let P : Name → Type 0 = λ x. destructions h x + alive st' x ≤ bit (was_given st' x) in
        let now : alive st' m ≡ 1 = ap (λ (o : Option T). bit (is_some o)) sets.value in
        let given : bit (was_given st' m) ≡ 1 = ap bit sets.used in
        subst P (sym is) (omega (arith, now, given, none)))
    | inr ne ↦ (
        let same : alive st' n ≡ alive st n = ap (λ (o : Option T). bit (is_some o)) (sets.others n ne) in
        let given : bit (was_given st' n) ≡ bit (was_given st n) = ap bit (sets.given n ne) in
        let le = t n in
        omega (arith, same, given, le))
  ]

  -- where each destruction is told as it may be, that of a name is told once at most
  pub once_told : (h : List Mark) (st : Store T) (n : Name) → DestroyedOnce h st → destructions h n ≤ 1
  once_told h st n t = let le = t n in let one = at_most (was_given st n) in omega (arith, le, one)

  -- each destruction is told once at most after a value was placed under a new name
  pub placed_once : (h : List Mark) (st : Store T) (m : Name) (v : T) → IsNext st m → was_given st m ≡ false → DestroyedOnce h st → DestroyedOnce h (placed st m v)
  placed_once h st m v next new t =
      let le = t m in
      let none : bit (was_given st m) ≡ 0 = ap bit new in
      at_set h st (placed st m v) m v (placed_sets st m v next) (omega (arith, le, none)) t

  -- each destruction is told once at most after a standing value was replaced
  pub replaced_once : (h : List Mark) (st : Store T) (m : Name) (v : T) → is_some (value_at st m) ≡ true → DestroyedOnce h st → DestroyedOnce h (replaced st m.cell v)
  replaced_once h st m v live t =
      let le = t m in
      let one : alive st m ≡ 1 = ap bit live in
      let most = at_most (was_given st m) in
      at_set h st (replaced st m.cell v) m v (replaced_sets st m v live) (omega (arith, le, one, most)) t

  -- a value that is given back is told of no more than before
  pub emptied_once : (h : List Mark) (st : Store T) (m : Name) → is_some (value_at st m) ≡ true → DestroyedOnce h st → DestroyedOnce h (emptied st m.cell)
  emptied_once h st m live t = λ n. let le = told_gone h st m n live t in omega (arith, le)

  never_used : (t : ℕ) → value_in {T = T} fresh t ≡ None
  never_used t = by_turn (0 == t + 1)
    where
      by_turn : (b : Bool) → ◌≡◌ {A = Option T} (if b then None else None) None
      by_turn true = refl
      by_turn false = refl

  empties_once : (h : List Mark) (st st' : Store T) (c : Option (ℕ × Option Name)) (n : Name) → Empties st c st' → DestroyedOnce h st → (told_by c n + destructions h n) + alive st' n ≤ bit (was_given st' n)
  empties_once h st st' None n e t = let le = at_same h st st' e t n in omega (arith, le)
  empties_once h st st' (Some c) n e t = by_name c.1 e
    where
      by_name : (m : Option Name) → EmptiesAt st m st' → (counts_name m n + destructions h n) + alive st' n ≤ bit (was_given st' n)
      by_name None e = let le = at_same h st st' e t n in omega (arith, le)
      by_name (Some m) e = (
          let P : Store T → Type 0 = λ x. (counts_name (Some m) n + destructions h n) + alive x n ≤ bit (was_given x n) in
          subst P (sym e.1) (told_gone h st m n e.0 t))

module _ {T J : Type 0} where
  -- each destruction is told once at most after a step
  pub after_once : (h : List Mark) (s : State T J) (who : ℕ) (event : Event) (r : Report) → Orderly s → IsReport s who event r → DestroyedOnce h s.store → DestroyedOnce (marks s who event r h) (after s who event r.outcome).store
  after_once h s who event r o is t = λ n.
      let m : Moves s who r.called (after s who event r.outcome) = moves_reported s who event r o is in
      let less = step_tells s who event r.outcome r.called h n in
      let le = empties_once h s.store (after s who event r.outcome).store r.called n m.cells t in
      omega (arith, less, le)

  -- each destruction is told once at most after a run
  pub run_once : (h : List Mark) (s : State T J) (steps : List Step) (reports : List Report) → Orderly s → AreReports s steps reports → DestroyedOnce h s.store → DestroyedOnce (history_after s steps reports h) (state_after s steps reports).store
  run_once h s [] [] o are t = t
  run_once h s [] (r ∷ reports) o are t = absurd are
  run_once h s (step ∷ steps) [] o are t = t
  run_once h s (step ∷ steps) (r ∷ reports) o are t =
      run_once (marks s step.who step.event r h) (after s step.who step.event r.outcome) steps reports (moves_reported s step.who step.event r o are.0).orderly are.1 (after_once h s step.who step.event r o are.0 t)

  -- after a run no bag has too many jobs, and only collections that call have some in hand
  pub run_orderly : (s : State T J) (steps : List Step) (reports : List Report) → Orderly s → AreReports s steps reports → Orderly (state_after s steps reports)
  run_orderly s [] [] o are = o
  run_orderly s [] (r ∷ reports) o are = absurd are
  run_orderly s (step ∷ steps) [] o are = o
  run_orderly s (step ∷ steps) (r ∷ reports) o are = run_orderly (after s step.who step.event r.outcome) steps reports (moves_reported s step.who step.event r o are.0).orderly are.1

-- of a new store no destruction was told
pub opened_once : (T : Type 0) (most turn_max : ℕ) → DestroyedOnce [] (opened_store {T = T} most turn_max)
opened_once T most turn_max = λ n.
    let st : Store T = opened_store most turn_max in
    let p : cell_at st n.cell ≡ fresh = get_or_past [] n.cell fresh (omega arith) in
    let none : alive st n ≡ 0 = ap (λ (c : Cell T). bit (is_some (value_in c n.turn))) p ∙ ap (λ (v : Option T). bit (is_some v)) (never_used n.turn) in
    omega (arith, none)
