-- Where one cell changes, every other name is what it was.
use Rattle.std.proofs.Common.{◌≡◌, ◌≢◌, ℕ, ◌+◌, ◌==◌, ◌<◌, Bool, true, false, length, refl, sym, ◌∙◌, ap, subst, inl, inr, arith, set, get_or-set_same, get_or-set_other}
use Rattle.std.specs.Prelude.{Option, None, Some, is_some, if◌then◌else◌, nat_lt}
use Rattle.std.proofs.lemmas.Bool.{cases_eq, cases_lt, eq-eqb, ne_eqb}
use Rattle.std.proofs.lemmas.Bool.Decides.{nat_tests}
use Rattle.std.proofs.lemmas.List.{get_or_past}
use Rattle.crossbeam_epoch.specs.declared.names.Name.{Name}
use Rattle.crossbeam_epoch.specs.declared.world.cells.Cell.{Cell}
use Rattle.crossbeam_epoch.specs.world.Store.{Store, fresh, cell_at, value_in, value_at, was_given, IsNext, emptied, replaced, placed, Sets}
use Rattle.crossbeam_epoch.proofs.lemmas.world.Givens.{cell_itself}
use Rattle.crossbeam_epoch.proofs.lemmas.world.Told.{turn_of, usable_empty, cell_with}

less_or_next : (u t turns : ℕ) → u ≢ t → t ≡ turns → nat_lt u (t + 1) ≡ nat_lt u turns
less_or_next u t turns ne e = elim (cases_lt u turns) [
  | inl lt ↦ (let a : nat_lt u (t + 1) ≡ true = grind (arith, nat_tests) in let b : nat_lt u turns ≡ true = grind (arith, nat_tests) in a ∙ sym b)
  | inr ge ↦ (
      let past : turns < u = elim (cases_lt turns u) [ inl lt ↦ lt | inr le ↦ absurd (ne (omega (arith, e, ge, le))) ] in
      let a : nat_lt u (t + 1) ≡ false = grind (arith, nat_tests) in
      let b : nat_lt u turns ≡ false = grind (arith, nat_tests) in
      a ∙ sym b)
]

module _ {T : Type 0} where
  other_turn : (c : Cell T) (t u : ℕ) → c.turns ≡ t + 1 → u ≢ t → value_in c u ≡ None
  other_turn c t u e ne = ap (λ (b : Bool). if b then c.value else None) (ne_eqb c.turns (u + 1) (λ q. ne (omega (arith, q, e))))

  same_turn : (c : Cell T) (t : ℕ) → c.turns ≡ t + 1 → value_in c t ≡ c.value
  same_turn c t e = ap (λ (b : Bool). if b then c.value else None) (eq-eqb c.turns (t + 1) e)

  -- a cell whose turn this name has gets this value
  sets : (st st' : Store T) (n : Name) (v : Option T) → cell_at st' n.cell ≡ record { turns = n.turn + 1; value = v } → ((i : ℕ) → i ≢ n.cell → cell_at st' i ≡ cell_at st i)
      → ((u : ℕ) → u ≢ n.turn → value_in (cell_at st n.cell) u ≡ None) → ((u : ℕ) → u ≢ n.turn → nat_lt u (n.turn + 1) ≡ nat_lt u (cell_at st n.cell).turns) → Sets st n v st'
  sets st st' n v here apart none turns = record {
    value = ap (λ c. value_in c n.turn) here ∙ same_turn (record { turns = n.turn + 1; value = v }) n.turn refl;
    used = ap (λ c. nat_lt n.turn c.turns) here ∙ grind (arith, nat_tests);
    others = λ m ne. elim (cases_eq m.cell n.cell) [
      | inl e ↦ (
          let P : ℕ → Type 0 = λ i. value_in (cell_at st' i) m.turn ≡ value_in (cell_at st i) m.turn in
          let other : m.turn ≢ n.turn = λ q. ne (same_name m n e q) in
          subst P (sym e) (ap (λ c. value_in c m.turn) here ∙ other_turn (record { turns = n.turn + 1; value = v }) n.turn m.turn refl other ∙ sym (none m.turn other)))
      | inr far ↦ ap (λ c. value_in c m.turn) (apart m.cell far)
    ];
    given = λ m ne. elim (cases_eq m.cell n.cell) [
      | inl e ↦ (
          let P : ℕ → Type 0 = λ i. nat_lt m.turn (cell_at st' i).turns ≡ nat_lt m.turn (cell_at st i).turns in
          subst P (sym e) (ap (λ c. nat_lt m.turn c.turns) here ∙ turns m.turn (λ q. ne (same_name m n e q))))
      | inr far ↦ ap (λ c. nat_lt m.turn c.turns) (apart m.cell far)
    ];
  }
    where
      same_name : (m n : Name) → m.cell ≡ n.cell → m.turn ≡ n.turn → m ≡ n
      same_name m n c t = ap (λ i. record { cell = i; turn = m.turn }) c ∙ ap (λ i. record { cell = n.cell; turn = i }) t

  inside : (st : Store T) (n : Name) → is_some (value_at st n) ≡ true → n.cell < length st.cells
  inside st n live = elim (cases_lt n.cell (length st.cells)) [
    | inl lt ↦ lt
    | inr ge ↦ absurd (
        let p : cell_at st n.cell ≡ fresh = get_or_past st.cells n.cell fresh ge in
        let t : (cell_at st n.cell).turns ≡ n.turn + 1 = turn_of (cell_at st n.cell) n.turn live in
        let z : (cell_at st n.cell).turns ≡ 0 = ap (λ c. c.turns) p in
        omega (arith, t, z))
  ]

  -- a value that stands is another, or none
  rewritten : (st : Store T) (n : Name) (v : Option T) → is_some (value_at st n) ≡ true → Sets st n v (record st { cells = set st.cells n.cell (record { turns = (cell_at st n.cell).turns; value = v }) })
  rewritten st n v live =
      let c : Cell T = record { turns = (cell_at st n.cell).turns; value = v } in
      let t : (cell_at st n.cell).turns ≡ n.turn + 1 = turn_of (cell_at st n.cell) n.turn live in
      sets st (record st { cells = set st.cells n.cell c }) n v
      (get_or-set_same st.cells n.cell c fresh (inside st n live) ∙ ap (λ k. record { turns = k; value = v }) t)
      (λ i ne. get_or-set_other st.cells n.cell i c fresh ne)
      (λ u ne. other_turn (cell_at st n.cell) n.turn u t ne)
      (λ u ne. ap (λ k. nat_lt u k) (sym t))

  -- a standing name whose cell is emptied stands no more, and every other name is what it was
  pub emptied_sets : (st : Store T) (n : Name) → is_some (value_at st n) ≡ true → Sets st n None (emptied st n.cell)
  emptied_sets st n live = rewritten st n None live

  -- a standing name whose value is replaced stands for the new one, and every other name is what it was
  pub replaced_sets : (st : Store T) (n : Name) (v : T) → is_some (value_at st n) ≡ true → Sets st n (Some v) (replaced st n.cell v)
  replaced_sets st n v live = rewritten st n (Some v) live

  -- nothing stands in a cell that is used next
  pub next_vacant : (st : Store T) (n : Name) → IsNext st n → (u : ℕ) → value_in (cell_at st n.cell) u ≡ None
  next_vacant st n next u =
      by_turn ((cell_at st n.cell).turns == u + 1) (usable_empty st n.cell next.usable)
    where
      by_turn : (b : Bool) → (cell_at st n.cell).value ≡ None → (if b then (cell_at st n.cell).value else None) ≡ None
      by_turn true e = e
      by_turn false e = refl

  -- a value that is placed stands under its new name, and every other name is what it was
  pub placed_sets : (st : Store T) (n : Name) (v : T) → IsNext st n → Sets st n (Some v) (placed st n v)
  placed_sets st n v next =
      let c : Cell T = record { turns = n.turn + 1; value = Some v } in
      sets st (placed st n v) n (Some v) (cell_itself st n.cell c next.near) (λ i ne. cell_with st n.cell i c next.near ne) (λ u ne. next_vacant st n next u) (λ u ne. less_or_next u n.turn (cell_at st n.cell).turns ne next.turn)

  -- a cell's next name was never given
  pub next_unused : (st : Store T) (n : Name) → IsNext st n → was_given st n ≡ false
  next_unused st n next = let turn = next.turn in grind (arith, nat_tests)
