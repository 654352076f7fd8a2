-- A value that is taken out, changed and put back.
use Rattle.std.proofs.Common.{◌≡◌, ◌≢◌, ℕ, ◌+◌, ◌==◌, ◌<◌, Bool, true, false, length, refl, sym, ◌∙◌, ap, subst, inl, inr, ◌⊎◌, arith}
use Rattle.std.specs.Prelude.{Option, None, Some, is_some, if◌then◌else◌}
use Rattle.std.proofs.lemmas.Bool.{cases_eq, cases_lt, eqb-true}
use Rattle.std.proofs.lemmas.Bool.Decides.{nat_tests}
use Rattle.std.proofs.lemmas.List.{get_or_past, get_or-set_same, get_or-set_other}
use Rattle.std.proofs.lemmas.List.Sums.{sum_by-set}
use Rattle.std.proofs.Math.ListN.{length-set}
use Rattle.crossbeam_epoch.specs.declared.world.cells.Cell.{Cell}
use Rattle.crossbeam_epoch.specs.declared.names.Name.{Name}
use Rattle.crossbeam_epoch.specs.world.Store.{Store, Sets, fresh, cell_at, value_in, value_at, was_given, replaced}
use Rattle.joint.specs.nodes.Altering.{Alters, Exchanges}
use Rattle.joint.specs.nodes.Nodes.{of_value, of_cell, total}

under : {T : Type 0} (b : Bool) (x : Option T) (v : T) → (if b then x else None) ≡ Some v → (b ≡ true) × (x ≡ Some v)
under true x v e = (refl, e)
under false x v e = absurd (cc e)

-- a cell that has a value at a turn has taken just the turns up to it, and holds that value
pub cell_of : {T : Type 0} (c : Cell T) (t : ℕ) (v : T) → value_in c t ≡ Some v → (c.turns ≡ t + 1) × (c.value ≡ Some v)
cell_of c t v e = let u : ((c.turns == t + 1) ≡ true) × (c.value ≡ Some v) = under (c.turns == t + 1) c.value v e in (eqb-true c.turns (t + 1) u.0, u.1)

-- a name that stands for something is of one of the cells
pub cell_inside : {T : Type 0} (st : Store T) (n : Name) (v : T) → value_at st n ≡ Some v → n.cell < length st.cells
cell_inside st n v e = elim (cases_lt n.cell (length st.cells)) [
  | inl lt ↦ lt
  | inr ge ↦ absurd (
      let p : cell_at st n.cell ≡ fresh = get_or_past st.cells n.cell fresh ge in
      let t : (cell_at st n.cell).turns ≡ n.turn + 1 = (cell_of (cell_at st n.cell) n.turn v e).0 in
      let z : (cell_at st n.cell).turns ≡ 0 = ap (λ c. c.turns) p in
      omega (arith, t, z))
]

-- a value that is replaced under its name is altered
replaced_alters : {T : Type 0} (st : Store T) (n : Name) (old new : T) → value_at st n ≡ Some old → Sets st n (Some new) (replaced st n.cell new) → Alters st n old new (replaced st n.cell new)
replaced_alters {T} st n old new e sets =
    let at : n.cell < length st.cells = cell_inside st n old e in
    let here : (cell_at st n.cell).value ≡ Some old = (cell_of (cell_at st n.cell) n.turn old e).1 in
    let now : Cell T = record { turns = (cell_at st n.cell).turns; value = Some new } in
    record {
      was = e;
      sets = sets;
      sums = λ f.
          let q : total f (replaced st n.cell new) + of_cell f (cell_at st n.cell) ≡ total f st + f new = sum_by-set (of_cell f) st.cells n.cell (record { turns = (cell_at st n.cell).turns; value = Some new }) fresh at in
          let z : of_cell f (cell_at st n.cell) ≡ f old = ap (of_value f) here in
          omega (arith, q, z);
      turns = λ i. elim (cases_eq i n.cell) [
        | inl q ↦ subst (λ j. (cell_at (replaced st n.cell new) j).turns ≡ (cell_at st j).turns) (sym q) (ap (λ c. c.turns) (get_or-set_same st.cells n.cell now fresh at))
        | inr ne ↦ ap (λ c. c.turns) (get_or-set_other st.cells n.cell i now fresh ne)
      ];
      wide = length-set st.cells n.cell (record { turns = (cell_at st n.cell).turns; value = Some new });
      most = refl;
      turn_max = refl;
    }

-- a value that is altered twice is altered from the first to the last
pub twice : {T : Type 0} (st st1 st2 : Store T) (n : Name) (a b c : T) → Alters st n a b st1 → Alters st1 n b c st2 → Alters st n a c st2
twice st st1 st2 n a b c x y = record {
  was = x.was;
  sets = record {
    value = y.sets.value;
    used = y.sets.used;
    others = λ m ne. y.sets.others m ne ∙ x.sets.others m ne;
    given = λ m ne. y.sets.given m ne ∙ x.sets.given m ne;
  };
  sums = λ f. omega (arith, x.sums f, y.sums f);
  turns = λ i. y.turns i ∙ x.turns i;
  wide = y.wide ∙ x.wide;
  most = y.most ∙ x.most;
  turn_max = y.turn_max ∙ x.turn_max;
}

-- what the law of the cells says of a value that is replaced
abbrev pub ReplacedSets : Type 0 → Type 0
ReplacedSets T = (st : Store T) (n : Name) (v : T) → is_some (value_at st n) ≡ true → Sets st n (Some v) (replaced st n.cell v)

-- a value that is taken out and put back changed is altered, and nothing else is
pub swapped : {T : Type 0} (law : ReplacedSets T) (st : Store T) (n : Name) (old mid new : T) → value_at st n ≡ Some old → Alters st n old new (replaced (replaced st n.cell mid) n.cell new)
swapped law st n old mid new e =
    let first : Alters st n old mid (replaced st n.cell mid) = replaced_alters st n old mid e (law st n mid (ap is_some e)) in
    let e1 : value_at (replaced st n.cell mid) n ≡ Some mid = first.sets.value in
    twice st (replaced st n.cell mid) (replaced (replaced st n.cell mid) n.cell new) n old mid new first (replaced_alters (replaced st n.cell mid) n mid new e1 (law (replaced st n.cell mid) n new (ap is_some e1)))

-- two names are the same, or they differ
pub same_or : (m n : Name) → (m ≡ n) ⊎ (m ≢ n)
same_or m n = elim (cases_eq m.cell n.cell) [
  | inl c ↦ elim (cases_eq m.turn n.turn) [
    | inl t ↦ inl (ap (λ x. record { cell = x; turn = m.turn }) c ∙ ap (λ x. record { cell = n.cell; turn = x }) t)
    | inr t ↦ inr (λ e. t (ap (λ x. x.turn) e))
  ]
  | inr c ↦ inr (λ e. c (ap (λ x. x.cell) e))
]

-- a name that stands was given
pub given : {T : Type 0} (st : Store T) (q : Name) (v : T) → value_at st q ≡ Some v → was_given st q ≡ true
given st q v e = let t : (cell_at st q.cell).turns ≡ q.turn + 1 = (cell_of (cell_at st q.cell) q.turn v e).0 in grind (arith, nat_tests)

-- a value altered twice, and between that another once, are exchanged, and nothing else is
pub exchanged : {T : Type 0} (st st1 st2 st3 : Store T) (m n : Name) (a b mid a' b' : T) → m ≢ n → Alters st m a mid st1 → Alters st1 n b b' st2 → Alters st2 m mid a' st3 → Exchanges st m n a b a' b' st3
exchanged st st1 st2 st3 m n a b mid a' b' apart x y z =
    let back : n ≢ m = λ e. apart (sym e) in
    record {
      was_old = x.was;
      was = sym (x.sets.others n back) ∙ y.was;
      is_old = z.sets.value;
      is = z.sets.others n back ∙ y.sets.value;
      given = λ q. elim (same_or q m) [
        | inl e ↦ ap (was_given st3) e ∙ z.sets.used ∙ sym (ap (was_given st) e ∙ given st m a x.was)
        | inr nm ↦ elim (same_or q n) [
          | inl e ↦ ap (was_given st3) e ∙ z.sets.given n back ∙ y.sets.used ∙ sym (ap (was_given st) e ∙ given st n b (sym (x.sets.others n back) ∙ y.was))
          | inr nn ↦ z.sets.given q nm ∙ y.sets.given q nn ∙ x.sets.given q nm
        ]
      ];
      others = λ q nm nn. z.sets.others q nm ∙ y.sets.others q nn ∙ x.sets.others q nm;
      sums = λ f. omega (arith, x.sums f, y.sums f, z.sums f);
      turns = λ i. z.turns i ∙ y.turns i ∙ x.turns i;
      wide = z.wide ∙ y.wide ∙ x.wide;
      most = z.most ∙ y.most ∙ x.most;
      turn_max = z.turn_max ∙ y.turn_max ∙ x.turn_max;
    }

-- two values are taken out, and both are put back changed
module _ {T : Type 0} (law : ReplacedSets T) (st st1 : Store T) (m n : Name) (a b mid : T) (apart : m ≢ n) (t1 : st1 ≡ replaced st m.cell mid) (w1 : value_at st m ≡ Some a) (w2 : value_at st1 n ≡ Some b) where
  out_first : Alters st m a mid st1
  out_first = subst (Alters st m a mid) (sym t1) (replaced_alters st m a mid w1 (law st m mid (ap is_some w1)))

  -- the second value stood as it did before the first was taken out
  pub was_second : value_at st n ≡ Some b
  was_second = sym (out_first.sets.others n (λ e. apart (sym e))) ∙ w2

  module _ (st2 st3 : Store T) (a' b' : T) (t2 : st2 ≡ replaced st1 n.cell mid) (t3 : st3 ≡ replaced st2 n.cell b') where
    out_second : Alters st1 n b mid st2
    out_second = subst (Alters st1 n b mid) (sym t2) (replaced_alters st1 n b mid w2 (law st1 n mid (ap is_some w2)))

    back_second : Alters st2 n mid b' st3
    back_second = subst (Alters st2 n mid b') (sym t3) (replaced_alters st2 n mid b' out_second.sets.value (law st2 n b' (ap is_some out_second.sets.value)))

    still_out : value_at st3 m ≡ Some mid
    still_out = back_second.sets.others m apart ∙ out_second.sets.others m apart ∙ out_first.sets.value

    -- the cell of the first still has a value when the second is back
    pub still_there : is_some (value_at st3 m) ≡ true
    still_there = ap is_some still_out

    -- once both are back, those two values are others, and nothing else is
    pub both_back : (st4 : Store T) → st4 ≡ replaced st3 m.cell a' → Exchanges st m n a b a' b' st4
    both_back st4 t4 =
        let last : Alters st3 m mid a' st4 = subst (Alters st3 m mid a') (sym t4) (replaced_alters st3 m mid a' still_out (law st3 m a' still_there)) in
        exchanged st st1 st3 st4 m n a b mid a' b' apart out_first (twice st1 st2 st3 n b mid b' out_second back_second) last
