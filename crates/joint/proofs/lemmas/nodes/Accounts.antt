-- What is charged and counted stays what the cells hold, whatever becomes of a node.
use Rattle.std.proofs.Common.{◌≡◌, ◌≢◌, ℕ, zero, suc, ◌+◌, ◌*◌, ◌^◌, ◌<◌, ◌≤◌, Bool, true, false, List, [], ◌∷◌, ◌++◌, length, get_or, refl, sym, ◌∙◌, ap, subst, inl, inr, ◌⊎◌, arith}
use Rattle.std.specs.Prelude.{Option, None, Some, is_some, nat_lt, slice_set, if◌then◌else◌, vec_capacity}
use Rattle.std.proofs.lemmas.Bool.{cases_eq}
use Rattle.std.proofs.lemmas.Bool.Decides.{nat_tests}
use Rattle.std.proofs.lemmas.List.{length-set, length_push, get_or-set_same, get_or-set_other}
use Rattle.crossbeam_epoch.specs.declared.names.Name.{Name}
use Rattle.crossbeam_epoch.specs.world.Machine.{State}
use Rattle.crossbeam_epoch.specs.world.Progress.{Orderly, Moves, Empties as EmptiesBy}
use Rattle.crossbeam_epoch.specs.declared.world.report.Event.{Event}
use Rattle.crossbeam_epoch.specs.declared.world.report.Report.{Report}
use Rattle.crossbeam_epoch.specs.world.Steps.{IsReport, after}
use Rattle.crossbeam_epoch.specs.world.Store.{Store, Sets, cell_at, value_at, was_given, placed, emptied}
use Rattle.congee.specs.declared.forms.base_node.NodeType.{NodeType}
use Rattle.congee.specs.declared.forms.base_node.NodeType.TheVariants.{N4, N16, N48, N256}
use Rattle.congee.specs.protocol.Events.{BackGives, NewNode, places}
use Rattle.congee.specs.forms.Forms.{capacity_of, size_of}
use Rattle.congee.specs.Heap.{fits}
use Rattle.joint.specs.declared.nodes.counts.Counts.{Counts}
use Rattle.joint.specs.declared.nodes.counts.CellMark.{CellMark}
use Rattle.joint.specs.declared.nodes.slot.Slot.{Slot}
use Rattle.joint.specs.declared.nodes.slot.LockWord.{LockWord}
use Rattle.joint.specs.nodes.Altering.{Alters, Fills, Empties, IsNewSlot}
use Rattle.joint.specs.nodes.Nodes.{Nodes, nodes, total, size, waits, waiting_size, sizes, waiting, waiting_bytes, IsMark, IsMarked, IsKept, AreWhole, gone_by}
use Rattle.joint.specs.NameLemmas.{number_named}
use Rattle.joint.specs.Names.{number, named}
use Rattle.joint.specs.nodes.Solid.{IsWhole}
use Rattle.joint.specs.nodes.CellMarks.{no_mark, mark_at, with_mark}
use Rattle.joint.specs.nodes.View.{heap, view, node_of}
use Rattle.joint.proofs.lemmas.nodes.Altering.{cell_of, cell_inside, same_or}
use Rattle.joint.proofs.lemmas.nodes.NodesInvariant.{some_injective, node_here, node_is}
use Rattle.joint.proofs.lemmas.nodes.Totals.{counted, emptied_empties, is_open, IsOpen, placed_here, placed_apart, placed_total, placed_long, total_bound, waiting_few, bytes_few}

-- two names of one cell that stand are one
one_standing : {T : Type 0} (st : Store T) (m n : Name) (x y : T) → value_at st m ≡ Some x → value_at st n ≡ Some y → m.cell ≡ n.cell → m ≡ n
one_standing st m n x y e f q =
    let a : (cell_at st m.cell).turns ≡ m.turn + 1 = (cell_of (cell_at st m.cell) m.turn x e).0 in
    let b : (cell_at st n.cell).turns ≡ n.turn + 1 = (cell_of (cell_at st n.cell) n.turn y f).0 in
    let z : (cell_at st m.cell).turns ≡ (cell_at st n.cell).turns = ap (λ i. (cell_at st i).turns) q in
    let t : m.turn ≡ n.turn = omega (arith, a, b, z) in
    ap (λ i. record { cell = i; turn = m.turn }) q ∙ ap (λ i. record { cell = n.cell; turn = i }) t

module _ {P : Type 0} (F : Nodes P) (k : Counts) (kept : IsKept k F) where
  -- the cell of a name that stands is among those that have a mark
  pub standing_inside : (n : Name) → is_some (value_at F.collector.store n) ≡ true → n.cell < length k.cell_marks.items
  standing_inside n e = go (value_at F.collector.store n) refl
    where
      go : (o : Option (Slot P)) → value_at F.collector.store n ≡ o → n.cell < length k.cell_marks.items
      go None z = (let b : false ≡ true = sym (ap is_some z) ∙ e in absurd (cc b))
      go (Some s) z = (let a = cell_inside F.collector.store n s z in omega (arith, a, kept.wide))

  module _ (n : Name) (s : Slot P) (st' : Store (Slot P)) (em : Empties F.collector.store n s st') where
    abbrev cell_mark : CellMark
    cell_mark = mark_at k.cell_marks.items n.cell

    U : IsMark s cell_mark
    U = kept.marks_are n s em.was

    -- the cell of a node that stands is among those that have a mark
    pub is_inside : n.cell < length k.cell_marks.items
    is_inside = (let a = cell_inside F.collector.store n s em.was in omega (arith, a, kept.wide))

    -- where a node stands that can be taken out, at least one is counted as standing
    pub standing_some : 1 ≤ k.standing
    standing_some = (let c = counted (λ x. 1) F.collector.store n s em.was in omega (arith, c, kept.standing_is))

    -- where it waits, at least one is counted as waiting
    pub waits_some : cell_mark.waits ≡ true → 1 ≤ k.waiting
    waits_some e =
        let one : waits s ≡ 1 = ap (λ (b : Bool). if b then 1 else 0) (U.waits_is ∙ e) in
        let c = counted waits F.collector.store n s em.was in
        omega (arith, one, c, kept.count_is)

    -- where it waits, the bytes counted as waiting are no fewer than its own
    pub bytes_some : cell_mark.waits ≡ true → size_of cell_mark.form ≤ k.waiting_bytes
    bytes_some e =
        let one : waiting_size s ≡ size s = ap (λ (b : Bool). if b then size s else 0) (U.waits_is ∙ e) in
        let c = counted waiting_size F.collector.store n s em.was in
        omega (arith, one, c, kept.bytes_is, U.size_is)

    -- its bytes are no more than what is charged
    pub charge_some : size_of cell_mark.form ≤ F.charge
    charge_some = (
        let c = counted size F.collector.store n s em.was in
        let a : F.charge ≡ F.base + sizes F.collector.store = kept.charged in
        omega (arith, c, a, U.size_is))

    -- once it is out, the charge without its bytes is the base and the sizes of the nodes left
    pub charged_less : (charge : ℕ) → charge + size_of cell_mark.form ≡ F.charge → charge ≡ F.base + sizes st'
    charged_less charge e = (
        let e0 : sizes st' + size s ≡ sizes F.collector.store = em.sums size in
        let a : F.charge ≡ F.base + sizes F.collector.store = kept.charged in
        omega (arith, e, e0, a, U.size_is))

module _ {P : Type 0} (F F' : Nodes P) (k : Counts) (kept : IsKept k F) (orderly : Orderly F'.collector) where
  -- where the cells and the charge are as before, the counts are those of the cells
  pub kept_same : F'.collector.store ≡ F.collector.store → F'.charge ≡ F.charge → F'.base ≡ F.base → IsKept k F'
  kept_same st charge base =
      let e : sizes F'.collector.store ≡ sizes F.collector.store = ap sizes st in
      let c : F.charge ≡ F.base + sizes F.collector.store = kept.charged in
      record {
        orderly = orderly;
        charged = omega (arith, e, c, charge, base);
        standing_is = kept.standing_is ∙ sym (ap (total (λ x. 1)) st);
        count_is = kept.count_is ∙ sym (ap waiting st);
        bytes_is = kept.bytes_is ∙ sym (ap waiting_bytes st);
        whole = subst AreWhole (sym st) kept.whole;
        marks_are = subst (λ x. IsMarked x k.cell_marks.items) (sym st) kept.marks_are;
        wide = kept.wide ∙ sym (ap (λ x. length x.cells) st);
        bounded = subst (λ x. length x.cells ≤ x.most) (sym st) kept.bounded;
        few = subst (λ x. x.most ≤ 16777215) (sym st) kept.few;
        used = subst (λ x. (i : ℕ) → i < length x.cells → 1 ≤ (cell_at x i).turns) (sym st) kept.used;
        turns = subst (λ x. (i : ℕ) → (cell_at x i).turns ≤ x.turn_max + 1) (sym st) kept.turns;
        last = subst (λ x. x.turn_max < 2 ^ 32) (sym st) kept.last;
        roomy = subst (λ x. x.most ≤ vec_capacity k.cell_marks) (sym st) kept.roomy;
      }

  module _ (n : Name) (s : Slot P) (em : Empties F.collector.store n s F'.collector.store) where
    abbrev t : CellMark
    t = mark_at k.cell_marks.items n.cell

    T : IsMark s t
    T = kept.marks_are n s em.was

    -- where a node goes, with its charge and its part of the counts, the counts are those of the cells
    pub kept_emptied : (k' : Counts) → k'.standing + 1 ≡ k.standing → F'.charge + size_of t.form ≡ F.charge → F'.base ≡ F.base → k'.cell_marks ≡ k.cell_marks → k'.waiting + (if t.waits then 1 else 0) ≡ k.waiting
        → k'.waiting_bytes + (if t.waits then size_of t.form else 0) ≡ k.waiting_bytes → IsKept k' F'
    kept_emptied k' standing charge base cell_marks count bytes =
        let e0 : sizes F'.collector.store + size s ≡ sizes F.collector.store = em.sums size in
        let e1 : waiting F'.collector.store + waits s ≡ waiting F.collector.store = em.sums waits in
        let e2 : waiting_bytes F'.collector.store + waiting_size s ≡ waiting_bytes F.collector.store = em.sums waiting_size in
        let w1 : waits s ≡ (if t.waits then 1 else 0) = ap (λ (b : Bool). if b then 1 else 0) T.waits_is in
        let w2 : waiting_size s ≡ (if t.waits then size_of t.form else 0) = ap (λ (b : Bool). if b then size s else 0) T.waits_is ∙ ap (λ (x : ℕ). if t.waits then x else 0) T.size_is in
        let c : F.charge ≡ F.base + sizes F.collector.store = kept.charged in
        let apart : (m : Name) (x : Slot P) → value_at F'.collector.store m ≡ Some x → value_at F.collector.store m ≡ Some x = λ m x e. elim (same_or m n) [
          | inl q ↦ (let z : None ≡ Some x = sym em.sets.value ∙ ap (value_at F'.collector.store) (sym q) ∙ e in absurd (cc z))
          | inr ne ↦ sym (em.sets.others m ne) ∙ e
        ] in
        record {
          orderly = orderly;
          charged = omega (arith, c, charge, base, e0, T.size_is);
          standing_is = (let e3 = em.sums (λ x. 1) in omega (arith, standing, e3, kept.standing_is));
          count_is = omega (arith, count, e1, w1, kept.count_is);
          bytes_is = omega (arith, bytes, e2, w2, kept.bytes_is);
          whole = λ m x e. kept.whole m x (apart m x e);
          marks_are = λ m x e. subst (λ (y : List CellMark). IsMark x (mark_at y m.cell)) (sym (ap (λ v. v.items) cell_marks)) (kept.marks_are m x (apart m x e));
          wide = ap (λ v. length v.items) cell_marks ∙ kept.wide ∙ sym em.wide;
          bounded = omega (arith, kept.bounded, em.wide, em.most);
          few = omega (arith, kept.few, em.most);
          used = λ i l. (let p = kept.used i (omega (arith, l, em.wide)) in omega (arith, p, em.turns i));
          turns = λ i. (let p = kept.turns i in omega (arith, p, em.turns i, em.turn_max));
          last = omega (arith, kept.last, em.turn_max);
          roomy = (let z : vec_capacity k'.cell_marks ≡ vec_capacity k.cell_marks = ap vec_capacity cell_marks in omega (arith, z, kept.roomy, em.most));
        }

  -- where a node comes
  module _ (n : Name) (s : Slot P) (fills : Fills F.collector.store n s F'.collector.store) (form : NodeType) (k' : Counts)
      (charge : F'.charge ≡ F.charge + size_of form) (base : F'.base ≡ F.base) (sz : size s ≡ size_of form) (free : s.word.retired ≡ false) (whole : IsWhole s.node)
      (cell_marks : k'.cell_marks.items ≡ with_mark k.cell_marks.items n.cell (record { form = form; waits = false })) (room : vec_capacity k'.cell_marks ≡ vec_capacity k.cell_marks)
      (standing : k'.standing ≡ k.standing + 1) (count : k'.waiting ≡ k.waiting) (bytes : k'.waiting_bytes ≡ k.waiting_bytes) where
    abbrev st : Store (Slot P)
    st = F.collector.store

    abbrev st' : Store (Slot P)
    st' = F'.collector.store

    open_cell : IsOpen st n
    open_cell = is_open st n fills.next

    abbrev new_mark : CellMark
    new_mark = record { form = form; waits = false }

    note_end : (ts : List CellMark) (x d : CellMark) → get_or (ts ++ x ∷ []) (length ts) d ≡ x
    note_end [] x d = refl
    note_end (y ∷ ts) x d = note_end ts x d

    note_before : (ts : List CellMark) (x d : CellMark) (i : ℕ) → i ≢ length ts → get_or (ts ++ x ∷ []) i d ≡ get_or ts i d
    note_before [] x d zero ne = absurd (ne refl)
    note_before [] x d (suc i) ne = refl
    note_before (y ∷ ts) x d zero ne = refl
    note_before (y ∷ ts) x d (suc i) ne = note_before ts x d i (λ e. ne (ap suc e))

    near : n.cell ≤ length k.cell_marks.items
    near = (let a = open_cell.near in omega (arith, a, kept.wide))

    here_in : (b : Bool) → nat_lt n.cell (length k.cell_marks.items) ≡ b → mark_at (if b then slice_set k.cell_marks.items n.cell new_mark else k.cell_marks.items ++ new_mark ∷ []) n.cell ≡ new_mark
    here_in true e = get_or-set_same k.cell_marks.items n.cell new_mark no_mark (let l : n.cell < length k.cell_marks.items = grind (arith, nat_tests, e) in l)
    here_in false e = (let q : n.cell ≡ length k.cell_marks.items = (let g : length k.cell_marks.items ≤ n.cell = grind (arith, nat_tests, e) in omega (arith, g, near)) in
        ap (λ j. get_or (k.cell_marks.items ++ new_mark ∷ []) j no_mark) q ∙ note_end k.cell_marks.items new_mark no_mark)

    apart_in : (b : Bool) → nat_lt n.cell (length k.cell_marks.items) ≡ b → (i : ℕ) → i ≢ n.cell → mark_at (if b then slice_set k.cell_marks.items n.cell new_mark else k.cell_marks.items ++ new_mark ∷ []) i ≡ mark_at k.cell_marks.items i
    apart_in true e i ne = get_or-set_other k.cell_marks.items n.cell i new_mark no_mark ne
    apart_in false e i ne = (let q : n.cell ≡ length k.cell_marks.items = (let g : length k.cell_marks.items ≤ n.cell = grind (arith, nat_tests, e) in omega (arith, g, near)) in
        note_before k.cell_marks.items new_mark no_mark i (λ z. ne (z ∙ sym q)))

    long_in : (b : Bool) → nat_lt n.cell (length k.cell_marks.items) ≡ b → (length (if b then slice_set k.cell_marks.items n.cell new_mark else k.cell_marks.items ++ new_mark ∷ []) ≡ length k.cell_marks.items) × (n.cell < length k.cell_marks.items) ⊎ (length (if b then slice_set k.cell_marks.items n.cell new_mark else k.cell_marks.items ++ new_mark ∷ []) ≡ length k.cell_marks.items + 1) × (n.cell ≡ length k.cell_marks.items)
    long_in true e = inl (length-set k.cell_marks.items n.cell new_mark, (let l : n.cell < length k.cell_marks.items = grind (arith, nat_tests, e) in l))
    long_in false e = inr (length_push k.cell_marks.items new_mark, (let g : length k.cell_marks.items ≤ n.cell = grind (arith, nat_tests, e) in omega (arith, g, near)))

    mark_here : mark_at k'.cell_marks.items n.cell ≡ new_mark
    mark_here = ap (λ ts. mark_at ts n.cell) cell_marks ∙ here_in (nat_lt n.cell (length k.cell_marks.items)) refl

    mark_apart : (i : ℕ) → i ≢ n.cell → mark_at k'.cell_marks.items i ≡ mark_at k.cell_marks.items i
    mark_apart i ne = ap (λ ts. mark_at ts i) cell_marks ∙ apart_in (nat_lt n.cell (length k.cell_marks.items)) refl i ne

    total_is : (f : Slot P → ℕ) → total f st' ≡ total f st + f s
    total_is f = ap (total f) fills.state ∙ placed_total st n s fills.next f

    vacant_cell : (m : Name) (x : Slot P) → value_at st m ≡ Some x → m.cell ≢ n.cell
    vacant_cell m x e q =
        let a : (cell_at st m.cell).value ≡ Some x = (cell_of (cell_at st m.cell) m.turn x e).1 in
        let b : (cell_at st m.cell).value ≡ None = ap (λ i. (cell_at st i).value) q ∙ open_cell.empty in
        let z : None ≡ Some x = sym b ∙ a in cc z

    fewer : length st'.cells ≤ st'.most
    fewer = elim (placed_long st n s fills.next) [
      | inl x ↦ (let a : length st'.cells ≡ length (placed st n s).cells = ap (λ y. length y.cells) fills.state in let b : st'.most ≡ st.most = ap (λ y. y.most) fills.state in omega (arith, a, b, x.0, kept.bounded))
      | inr x ↦ (let a : length st'.cells ≡ length (placed st n s).cells = ap (λ y. length y.cells) fills.state in let b : st'.most ≡ st.most = ap (λ y. y.most) fills.state in omega (arith, a, b, x.0, x.1, open_cell.below))
    ]

    same_long : length k'.cell_marks.items ≡ length st'.cells
    same_long =
        let a : length st'.cells ≡ length (placed st n s).cells = ap (λ y. length y.cells) fills.state in
        let b : length k'.cell_marks.items ≡ length (with_mark k.cell_marks.items n.cell new_mark) = ap length cell_marks in
        elim (placed_long st n s fills.next) [
          | inl x ↦ elim (long_in (nat_lt n.cell (length k.cell_marks.items)) refl) [
            | inl y ↦ omega (arith, a, b, x.0, y.0, kept.wide)
            | inr y ↦ absurd (omega (arith, x.1, y.1, kept.wide))
          ]
          | inr x ↦ elim (long_in (nat_lt n.cell (length k.cell_marks.items)) refl) [
            | inl y ↦ absurd (omega (arith, x.1, y.1, kept.wide))
            | inr y ↦ omega (arith, a, b, x.0, y.0, kept.wide)
          ]
        ]

    turns_in : (i : ℕ) → (cell_at st' i).turns ≤ st'.turn_max + 1
    turns_in i =
        let b : st'.turn_max ≡ st.turn_max = ap (λ y. y.turn_max) fills.state in
        let a : (cell_at st' i).turns ≡ (cell_at (placed st n s) i).turns = ap (λ y. (cell_at y i).turns) fills.state in
        elim (cases_eq i n.cell) [
          | inl q ↦ (let z : (cell_at (placed st n s) i).turns ≡ n.turn + 1 = ap (λ j. (cell_at (placed st n s) j).turns) q ∙ ap (λ c. c.turns) (placed_here st n s fills.next) in omega (arith, a, b, z, open_cell.last))
          | inr ne ↦ (let z : (cell_at (placed st n s) i).turns ≡ (cell_at st i).turns = ap (λ c. c.turns) (placed_apart st n s fills.next i ne) in let p = kept.turns i in omega (arith, a, b, z, p))
        ]

    used_in : (i : ℕ) → i < length st'.cells → 1 ≤ (cell_at st' i).turns
    used_in i l =
        let a : (cell_at st' i).turns ≡ (cell_at (placed st n s) i).turns = ap (λ y. (cell_at y i).turns) fills.state in
        let b : length st'.cells ≡ length (placed st n s).cells = ap (λ y. length y.cells) fills.state in
        elim (cases_eq i n.cell) [
          | inl q ↦ (let z : (cell_at (placed st n s) i).turns ≡ n.turn + 1 = ap (λ j. (cell_at (placed st n s) j).turns) q ∙ ap (λ c. c.turns) (placed_here st n s fills.next) in omega (arith, a, z))
          | inr ne ↦ (
              let z : (cell_at (placed st n s) i).turns ≡ (cell_at st i).turns = ap (λ c. c.turns) (placed_apart st n s fills.next i ne) in
              let low : i < length st.cells = elim (placed_long st n s fills.next) [ inl x ↦ omega (arith, l, b, x.0) | inr x ↦ omega (arith, l, b, x.0, x.1, ne) ] in
              let p = kept.used i low in omega (arith, a, z, p))
        ]

    -- a new node with its charge, its mark and one more counted leaves the counts those of the cells
    pub kept_filled : IsKept k' F'
    kept_filled =
        let e0 : sizes st' ≡ sizes st + size s = total_is size in
        let e1 : waiting st' ≡ waiting st + waits s = total_is waits in
        let e2 : waiting_bytes st' ≡ waiting_bytes st + waiting_size s = total_is waiting_size in
        let w1 : waits s ≡ 0 = ap (λ (b : Bool). if b then 1 else 0) free in
        let w2 : waiting_size s ≡ 0 = ap (λ (b : Bool). if b then size s else 0) free in
        let c : F.charge ≡ F.base + sizes st = kept.charged in
        let most : st'.most ≡ st.most = ap (λ y. y.most) fills.state in
        let last : st'.turn_max ≡ st.turn_max = ap (λ y. y.turn_max) fills.state in
        record {
          orderly = orderly;
          charged = omega (arith, c, charge, base, e0, sz);
          standing_is = (let e3 = total_is (λ x. 1) in omega (arith, standing, e3, kept.standing_is));
          count_is = omega (arith, count, e1, w1, kept.count_is);
          bytes_is = omega (arith, bytes, e2, w2, kept.bytes_is);
          whole = λ m x e. elim (same_or m n) [
            | inl q ↦ (let z : s ≡ x = some_injective s x (sym fills.sets.value ∙ ap (value_at st') (sym q) ∙ e) in subst (λ (y : Slot P). IsWhole y.node) z whole)
            | inr ne ↦ kept.whole m x (sym (fills.sets.others m ne) ∙ e)
          ];
          marks_are = λ m x e. elim (same_or m n) [
            | inl q ↦ (
                let z : s ≡ x = some_injective s x (sym fills.sets.value ∙ ap (value_at st') (sym q) ∙ e) in
                let new : IsMark s new_mark = record { size_is = sz; waits_is = free } in
                subst (λ (y : Slot P). IsMark y (mark_at k'.cell_marks.items m.cell)) z (subst (IsMark s) (sym (ap (λ (y : Name). mark_at k'.cell_marks.items y.cell) q ∙ mark_here)) new))
            | inr ne ↦ (
                let before : value_at st m ≡ Some x = sym (fills.sets.others m ne) ∙ e in
                subst (IsMark x) (sym (mark_apart m.cell (vacant_cell m x before))) (kept.marks_are m x before))
          ];
          wide = same_long;
          bounded = fewer;
          few = omega (arith, kept.few, most);
          used = used_in;
          turns = turns_in;
          last = omega (arith, kept.last, last);
          roomy = omega (arith, kept.roomy, most, room);
        }

  -- where a node is handed over
  module _ (n : Name) (s : Slot P) (w : LockWord) (alters : Alters F.collector.store n s (record s { word = w }) F'.collector.store) (k' : Counts)
      (charge : F'.charge ≡ F.charge) (base : F'.base ≡ F.base) (mark : w.retired ≡ true) (free : s.word.retired ≡ false)
      (cell_marks : k'.cell_marks.items ≡ slice_set k.cell_marks.items n.cell (record (mark_at k.cell_marks.items n.cell) { waits = true })) (room : vec_capacity k'.cell_marks ≡ vec_capacity k.cell_marks)
      (standing : k'.standing ≡ k.standing) (count : k'.waiting ≡ k.waiting + 1) (bytes : k'.waiting_bytes ≡ k.waiting_bytes + size_of (mark_at k.cell_marks.items n.cell).form) where
    abbrev marked : CellMark
    marked = record (mark_at k.cell_marks.items n.cell) { waits = true }

    abbrev s' : Slot P
    s' = record s { word = w }

    at : n.cell < length k.cell_marks.items
    at = (let a = cell_inside F.collector.store n s alters.was in omega (arith, a, kept.wide))

    -- a node that begins to wait, marked and counted so, leaves the counts those of the cells
    pub kept_marked : IsKept k' F'
    kept_marked =
        let U : IsMark s (mark_at k.cell_marks.items n.cell) = kept.marks_are n s alters.was in
        let e0 : sizes F'.collector.store + size s ≡ sizes F.collector.store + size s = alters.sums size in
        let e1 : waiting F'.collector.store + waits s ≡ waiting F.collector.store + waits s' = alters.sums waits in
        let e2 : waiting_bytes F'.collector.store + waiting_size s ≡ waiting_bytes F.collector.store + waiting_size s' = alters.sums waiting_size in
        let w1 : waits s ≡ 0 = ap (λ (b : Bool). if b then 1 else 0) free in
        let w2 : waits s' ≡ 1 = ap (λ (b : Bool). if b then 1 else 0) mark in
        let w3 : waiting_size s ≡ 0 = ap (λ (b : Bool). if b then size s else 0) free in
        let w4 : waiting_size s' ≡ size s = ap (λ (b : Bool). if b then size s else 0) mark in
        let c : F.charge ≡ F.base + sizes F.collector.store = kept.charged in
        record {
          orderly = orderly;
          charged = omega (arith, c, charge, base, e0);
          standing_is = (let e3 = alters.sums (λ x. 1) in omega (arith, standing, e3, kept.standing_is));
          count_is = omega (arith, count, e1, w1, w2, kept.count_is);
          bytes_is = omega (arith, bytes, e2, w3, w4, kept.bytes_is, U.size_is);
          whole = λ m x e. elim (same_or m n) [
            | inl q ↦ (let z : s' ≡ x = some_injective s' x (sym alters.sets.value ∙ ap (value_at F'.collector.store) (sym q) ∙ e) in subst (λ (y : Slot P). IsWhole y.node) z (kept.whole n s alters.was))
            | inr ne ↦ kept.whole m x (sym (alters.sets.others m ne) ∙ e)
          ];
          marks_are = λ m x e. elim (same_or m n) [
            | inl q ↦ (
                let z : s' ≡ x = some_injective s' x (sym alters.sets.value ∙ ap (value_at F'.collector.store) (sym q) ∙ e) in
                let new : IsMark s' marked = record { size_is = U.size_is; waits_is = mark } in
                let is : mark_at k'.cell_marks.items m.cell ≡ marked = ap (λ (y : Name). mark_at k'.cell_marks.items y.cell) q ∙ ap (λ ts. mark_at ts n.cell) cell_marks ∙ get_or-set_same k.cell_marks.items n.cell marked no_mark at in
                subst (λ (y : Slot P). IsMark y (mark_at k'.cell_marks.items m.cell)) z (subst (IsMark s') (sym is) new))
            | inr ne ↦ (
                let before : value_at F.collector.store m ≡ Some x = sym (alters.sets.others m ne) ∙ e in
                let off : m.cell ≢ n.cell = λ q. ne (one_standing F.collector.store m n x s before alters.was q) in
                let is : mark_at k'.cell_marks.items m.cell ≡ mark_at k.cell_marks.items m.cell = ap (λ ts. mark_at ts m.cell) cell_marks ∙ get_or-set_other k.cell_marks.items n.cell m.cell marked no_mark off in
                subst (IsMark x) (sym is) (kept.marks_are m x before))
          ];
          wide = ap length cell_marks ∙ length-set k.cell_marks.items n.cell marked ∙ kept.wide ∙ sym alters.wide;
          bounded = omega (arith, kept.bounded, alters.wide, alters.most);
          few = omega (arith, kept.few, alters.most);
          used = λ i l. (let p = kept.used i (omega (arith, l, alters.wide)) in omega (arith, p, alters.turns i));
          turns = λ i. (let p = kept.turns i in omega (arith, p, alters.turns i, alters.turn_max));
          last = omega (arith, kept.last, alters.turn_max);
          roomy = omega (arith, kept.roomy, alters.most, room);
        }

module _ {P : Type 0} (F : Nodes P) (k : Counts) (kept : IsKept k F) where
  -- at most 16,777,215 nodes wait
  pub count_few : k.waiting ≤ 16777215
  count_few = (let a = waiting_few F.collector.store in omega (arith, a, kept.count_is, kept.bounded, kept.few))

  -- at most 16,777,215 nodes stand
  pub standing_few : k.standing ≤ 16777215
  standing_few = (let a = total_bound (λ x. 1) 1 (λ v. one) F.collector.store.cells in omega (arith, a, kept.standing_is, kept.bounded, kept.few))
    where
      one : 1 ≤ 1
      one = omega arith

  -- the nodes that wait have at most 2,104 bytes for each of 16,777,215 cells
  pub bytes_small : k.waiting_bytes ≤ 2104 * 16777215
  bytes_small = (let a = bytes_few F.collector.store in omega (arith, a, kept.bytes_is, kept.bounded, kept.few))

-- what a step of the collector moves, told of the state after it
pub moved : {T J : Type 0} (s next : State T J) (who : ℕ) (event : Event) (r : Report) (law : (s : State T J) (who : ℕ) (event : Event) (r : Report) → Orderly s → IsReport s who event r → Moves s who r.called (after s who event r.outcome))
    → Orderly s → IsReport s who event r → next ≡ after s who event r.outcome → Moves s who r.called next
moved s next who event r law orderly report e = subst (Moves s who r.called) (sym e) (law s who event r orderly report)

-- where a step's call destroyed nothing, the cells are as they were
pub unchanged_by : {T : Type 0} (st st' : Store T) (c : Option (ℕ × Option Name)) → EmptiesBy st c st' → gone_by c ≡ None → st' ≡ st
unchanged_by st st' None e q = e
unchanged_by st st' (Some (t, None)) e q = e
unchanged_by st st' (Some (t, Some n)) e q = absurd (cc q)

-- a called job that destroyed what a name stood for took out that value, and nothing else
pub emptied_by : {T : Type 0} (law : (st : Store T) (n : Name) → is_some (value_at st n) ≡ true → Sets st n None (emptied st n.cell)) (st st' : Store T) (c : Option (ℕ × Option Name)) (n : Name)
    → EmptiesBy st c st' → gone_by c ≡ Some n → (s : T) × Empties st n s st'
emptied_by law st st' None n e q = absurd (cc q)
emptied_by law st st' (Some (t, None)) n e q = absurd (cc q)
emptied_by {T} law st st' (Some (t, Some m)) n e q = subst (λ x. (s : T) × Empties st x s st') (let z : m ≡ n = cc q in z) (go (value_at st m) refl)
  where
    go : (o : Option T) → value_at st m ≡ o → (s : T) × Empties st m s st'
    go None z = (let b : false ≡ true = sym (ap is_some z) ∙ e.0 in absurd (cc b))
    go (Some s) z = (s, subst (Empties st m s) (sym e.1) (emptied_empties st m s z (law st m e.0)))

-- a node that goes is destroyed
pub gone_node : {P : Type 0} (F G : Nodes P) (view_is : F ≡ G) (n : Name) (s : Slot P) (st' : Store (Slot P)) → Empties F.collector.store n s st' → BackGives (nodes G) (number n) (heap st')
gone_node {P} F G view_is n s st' em =
    let q : heap st' (number n) ≡ view {P = P} true None = node_here st' n ∙ ap (λ b. view b (value_at st' n)) em.sets.used ∙ ap (λ v. view true v) em.sets.value in
    record {
      gone = ap (λ x. x.destroyed) q;
      made = ap (λ x. x.made) q;
      unlocked = ap (λ x. x.locked) q;
      others = λ j ne.
          let apart : named j ≢ n = λ z. ne (sym (number_named j) ∙ ap number z) in
          ap (λ g. view g (value_at st' (named j))) (em.sets.given (named j) apart) ∙ ap (λ v. view (was_given F.collector.store (named j)) v) (em.sets.others (named j) apart) ∙ ap (λ x. nodes x j) view_is;
    }

-- a new slot under the next name is a new node
pub new_node : {P : Type 0} (F G : Nodes P) (view_is : F ≡ G) (n : Name) (s : Slot P) (st' : Store (Slot P)) (form : NodeType) (prefix key : List ℕ) (size : ℕ)
    → Fills F.collector.store n s st' → IsNewSlot s form prefix → fits prefix key ≡ true → length prefix ≡ size → NewNode (nodes G) (number n) form key size (heap st')
new_node {P} F G view_is n s st' form prefix key size fills fresh fit long =
    let q : heap st' (number n) ≡ node_of s = node_is st' n s fills.sets.value in
    let z : nodes G (number n) ≡ view {P = P} false None = ap (λ x. nodes x (number n)) (sym view_is) ∙ node_here F.collector.store n ∙ ap (λ b. view b (value_at F.collector.store n)) fills.ungiven ∙ ap (λ v. view false v) fills.vacant in
    let word = fresh.word in
    record {
      unmade = ap (λ x. x.made) z;
      unlocked = ap (λ x. x.locked) z;
      fitted = ap (λ x. fits x.prefix key) q ∙ ap (λ p. fits p key) fresh.prefix_is ∙ fit;
      long = ap (λ x. length x.prefix) q ∙ ap length fresh.prefix_is ∙ long;
      blank = λ b. ap (λ x. x.children b) q ∙ fresh.blank b;
      empty = ap (λ x. x.count) q ∙ fresh.empty;
      capacity = ap (λ x. x.capacity) q ∙ fresh.capacity ∙ places_is form;
      version = ap (λ x. x.version) q ∙ ap (λ x. x.version) word;
      free = ap (λ x. x.locked) q ∙ ap (λ x. x.locked) word;
      live = ap (λ x. x.obsolete) q ∙ ap (λ x. x.obsolete) word;
      made = ap (λ x. x.made) q;
      kept = ap (λ x. x.destroyed) q;
      unretired = ap (λ x. x.retired) q ∙ ap (λ x. x.retired) word;
      others = λ j ne.
          let apart : named j ≢ n = λ e. ne (sym (number_named j) ∙ ap number e) in
          ap (λ g. view g (value_at st' (named j))) (fills.sets.given (named j) apart) ∙ ap (λ v. view (was_given F.collector.store (named j)) v) (fills.sets.others (named j) apart) ∙ ap (λ x. nodes x j) view_is;
    }
  where
    places_is : (f : NodeType) → capacity_of f ≡ places f
    places_is N4 = refl
    places_is N16 = refl
    places_is N48 = refl
    places_is N256 = refl
