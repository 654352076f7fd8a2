-- Sums over the cells, and what a new value makes of them.
use Rattle.std.proofs.Common.{◌≡◌, ◌≢◌, ℕ, zero, suc, ◌+◌, ◌*◌, ◌<◌, ◌≤◌, ◌&&◌, Bool, true, false, List, [], ◌∷◌, ◌++◌, length, get_or, refl, sym, ◌∙◌, ap, subst, inl, inr, ◌⊎◌, arith}
use Rattle.std.specs.Prelude.{Box, Option, None, Some, is_none, nat_lt, nat_le, slice_set, if◌then◌else◌}
use Rattle.std.specs.List.{sum_by}
use Rattle.std.proofs.lemmas.Bool.{cases_eq}
use Rattle.std.proofs.lemmas.Bool.Decides.{nat_tests}
use Rattle.std.proofs.lemmas.List.{length-set, length_push, get_or-set_same, get_or-set_other}
use Rattle.std.proofs.lemmas.List.Sums.{sum_by-set, sum_by_push, sum_by-cons}
use Rattle.crossbeam_epoch.specs.declared.world.cells.Cell.{Cell}
use Rattle.crossbeam_epoch.specs.declared.names.Name.{Name}
use Rattle.crossbeam_epoch.specs.world.Store.{Store, Sets, IsNext, fresh, cell_at, value_at, placed, emptied}
use Rattle.congee.specs.declared.forms.base_node.Node.{Node as Form}
use Rattle.congee.specs.declared.forms.base_node.NodeType.{NodeType}
use Rattle.congee.specs.declared.forms.base_node.NodeType.TheVariants.{N4, N16, N48, N256}
use Rattle.congee.specs.forms.Forms.{form_of, size_of}
use Rattle.joint.specs.declared.id.Id.{Id}
use Rattle.joint.specs.declared.nodes.slot.Slot.{Slot}
use Rattle.joint.specs.nodes.Altering.{Empties}
use Rattle.joint.specs.nodes.Nodes.{of_value, of_cell, total, size_in, size, waits, waiting_size, waiting, waiting_bytes}
use Rattle.joint.proofs.lemmas.nodes.Altering.{cell_of, cell_inside}
use Rattle.congee.proofs.Laws.{both_true}

-- a node has at most 2,104 bytes
pub size_bound : (f : NodeType) → size_of f ≤ 2104
size_bound N4 = omega arith
size_bound N16 = omega arith
size_bound N48 = omega arith
size_bound N256 = omega arith

-- to take a number once more adds it
pub times_suc : (m n : ℕ) → m * suc n ≡ m * n + m
times_suc m n = omega arith

module _ {T : Type 0} where
  bound_in : (f : T → ℕ) (most : ℕ) → ((v : T) → f v ≤ most) → (o : Option T) → of_value f o ≤ most
  bound_in f most h None = omega arith
  bound_in f most h (Some v) = h v

  -- a sum over cells is no more than the greatest that it adds, for each cell
  pub total_bound : (f : T → ℕ) (most : ℕ) → ((v : T) → f v ≤ most) → (cs : List (Cell T)) → sum_by (of_cell f) cs ≤ most * length cs
  total_bound f most h [] = omega arith
  total_bound f most h (c ∷ cs) = (
      let a = total_bound f most h cs in
      let b : of_cell f c ≤ most = bound_in f most h c.value in
      let e = sum_by-cons (of_cell f) c cs in
      let t : most * length (c ∷ cs) ≡ most * length cs + most = times_suc most (length cs) in
      omega (arith, a, b, e, t))

  -- a value that stands is counted
  pub counted : (f : T → ℕ) (st : Store T) (n : Name) (v : T) → value_at st n ≡ Some v → f v ≤ total f st
  counted f st n v e =
      let at : n.cell < length st.cells = cell_inside st n v e in
      let here : (cell_at st n.cell).value ≡ Some v = (cell_of (cell_at st n.cell) n.turn v e).1 in
      let q = sum_by-set (of_cell f) st.cells n.cell fresh fresh at in
      let z : of_cell f (cell_at st n.cell) ≡ f v = ap (of_value f) here in
      omega (arith, q, z)

  -- a value that is taken out of its cell is gone, and each sum over the cells is less by its share
  pub emptied_empties : (st : Store T) (n : Name) (old : T) → value_at st n ≡ Some old → Sets st n None (emptied st n.cell) → Empties st n old (emptied st n.cell)
  emptied_empties st n old e sets =
      let at : n.cell < length st.cells = cell_inside st n old e in
      let here : (cell_at st n.cell).value ≡ Some old = (cell_of (cell_at st n.cell) n.turn old e).1 in
      let now : Cell T = record { turns = (cell_at st n.cell).turns; value = None } in
      record {
        was = e;
        sets = sets;
        sums = λ f.
            let q : total f (emptied st n.cell) + of_cell f (cell_at st n.cell) ≡ total f st + 0 = sum_by-set (of_cell f) st.cells n.cell (record { turns = (cell_at st n.cell).turns; value = None }) fresh at in
            let z : of_cell f (cell_at st n.cell) ≡ f old = ap (of_value f) here in
            omega (arith, q, z);
        turns = λ i. elim (cases_eq i n.cell) [
          | inl q ↦ subst (λ j. (cell_at (emptied st n.cell) j).turns ≡ (cell_at st j).turns) (sym q) (ap (λ c. c.turns) (get_or-set_same st.cells n.cell now fresh at))
          | inr ne ↦ ap (λ c. c.turns) (get_or-set_other st.cells n.cell i now fresh ne)
        ];
        wide = length-set st.cells n.cell now;
        most = refl;
        turn_max = refl;
      }

  nothing_in : (o : Option T) → is_none o ≡ true → o ≡ None
  nothing_in None e = refl
  nothing_in (Some v) e = absurd (cc e)

  -- the cell that the next name is of
  pub record IsOpen (st : Store T) (n : Name) : Type 0 where
    pub below : n.cell < st.most
    pub empty : (cell_at st n.cell).value ≡ None
    pub turn : n.turn ≡ (cell_at st n.cell).turns
    pub last : n.turn ≤ st.turn_max
    pub near : n.cell ≤ length st.cells

  -- the next name's cell is empty and at the name's turn, and is no further than the one past the last
  pub is_open : (st : Store T) (n : Name) → IsNext st n → IsOpen st n
  is_open st n next =
      let low : Bool = nat_lt n.cell st.most in
      let none : Bool = is_none (cell_at st n.cell).value in
      let free : Bool = nat_le (cell_at st n.cell).turns st.turn_max in
      let u : (low && none) ≡ true = (both_true (low && none) free next.usable).0 in
      let a : nat_lt n.cell st.most ≡ true = (both_true low none u).0 in
      let d : nat_le (cell_at st n.cell).turns st.turn_max ≡ true = (both_true (low && none) free next.usable).1 in
      record {
        below = grind (arith, nat_tests, a);
        empty = nothing_in (cell_at st n.cell).value (both_true low none u).1;
        turn = next.turn;
        last = (let t : (cell_at st n.cell).turns ≤ st.turn_max = grind (arith, nat_tests, d) in omega (arith, t, next.turn));
        near = next.near;
      }

  -- a cell is written, or the next one comes
  abbrev put_in : List (Cell T) → ℕ → Cell T → Bool → List (Cell T)
  put_in cs i c b = if b then slice_set cs i c else cs ++ c ∷ []

  past_end : (cs : List (Cell T)) (c d : Cell T) → get_or (cs ++ c ∷ []) (length cs) d ≡ c
  past_end [] c d = refl
  past_end (x ∷ cs) c d = past_end cs c d

  apart_end : (cs : List (Cell T)) (c d : Cell T) (i : ℕ) → i ≢ length cs → get_or (cs ++ c ∷ []) i d ≡ get_or cs i d
  apart_end [] c d zero ne = absurd (ne refl)
  apart_end [] c d (suc i) ne = refl
  apart_end (x ∷ cs) c d zero ne = refl
  apart_end (x ∷ cs) c d (suc i) ne = apart_end cs c d i (λ e. ne (ap suc e))

  module _ (cs : List (Cell T)) (i : ℕ) (c : Cell T) (near : i ≤ length cs) where
    put_here : (b : Bool) → nat_lt i (length cs) ≡ b → get_or (put_in cs i c b) i fresh ≡ c
    put_here true e = get_or-set_same cs i c fresh (let l : i < length cs = grind (arith, nat_tests, e) in l)
    put_here false e = (let q : i ≡ length cs = (let g : length cs ≤ i = grind (arith, nat_tests, e) in omega (arith, g, near)) in ap (λ j. get_or (cs ++ c ∷ []) j fresh) q ∙ past_end cs c fresh)

    put_apart : (b : Bool) → nat_lt i (length cs) ≡ b → (j : ℕ) → j ≢ i → get_or (put_in cs i c b) j fresh ≡ get_or cs j fresh
    put_apart true e j ne = get_or-set_other cs i j c fresh ne
    put_apart false e j ne = (let q : i ≡ length cs = (let g : length cs ≤ i = grind (arith, nat_tests, e) in omega (arith, g, near)) in apart_end cs c fresh j (λ z. ne (z ∙ sym q)))

    put_sum : (f : T → ℕ) → (get_or cs i fresh).value ≡ None → (b : Bool) → nat_lt i (length cs) ≡ b → sum_by (of_cell f) (put_in cs i c b) ≡ sum_by (of_cell f) cs + of_cell f c
    put_sum f none true e = (
        let l : i < length cs = grind (arith, nat_tests, e) in
        let q = sum_by-set (of_cell f) cs i c fresh l in
        let z : of_cell f (get_or cs i fresh) ≡ 0 = ap (of_value f) none in
        omega (arith, q, z))
    put_sum f none false e = sum_by_push (of_cell f) cs c

    put_long : (b : Bool) → nat_lt i (length cs) ≡ b → (length (put_in cs i c b) ≡ length cs) × (i < length cs) ⊎ (length (put_in cs i c b) ≡ length cs + 1) × (i ≡ length cs)
    put_long true e = inl (length-set cs i c, (let l : i < length cs = grind (arith, nat_tests, e) in l))
    put_long false e = inr (length_push cs c, (let g : length cs ≤ i = grind (arith, nat_tests, e) in omega (arith, g, near)))

  module _ (st : Store T) (n : Name) (v : T) (next : IsNext st n) where
    abbrev filled : Cell T
    filled = record { turns = n.turn + 1; value = Some v }

    -- the cell of the next name has the value and one turn more
    pub placed_here : cell_at (placed st n v) n.cell ≡ filled
    placed_here = put_here st.cells n.cell filled next.near (nat_lt n.cell (length st.cells)) refl

    -- each other cell is as it was
    pub placed_apart : (j : ℕ) → j ≢ n.cell → cell_at (placed st n v) j ≡ cell_at st j
    placed_apart j ne = put_apart st.cells n.cell filled next.near (nat_lt n.cell (length st.cells)) refl j ne

    -- each sum over the cells is more by the new value's share
    pub placed_total : (f : T → ℕ) → total f (placed st n v) ≡ total f st + f v
    placed_total f = put_sum st.cells n.cell filled next.near f (is_open st n next).empty (nat_lt n.cell (length st.cells)) refl

    -- there are as many cells as before, or one more where the name's cell is the one past the last
    pub placed_long : (length (placed st n v).cells ≡ length st.cells) × (n.cell < length st.cells) ⊎ (length (placed st n v).cells ≡ length st.cells + 1) × (n.cell ≡ length st.cells)
    placed_long = put_long st.cells n.cell filled next.near (nat_lt n.cell (length st.cells)) refl

waits_one : (b : Bool) → (if b then 1 else 0) ≤ 1
waits_one true = omega arith
waits_one false = omega arith

in_node : {P A : Type 0} (o : Option (Box (Form Id P) A)) → size_in o ≤ 2104
in_node None = omega arith
in_node (Some n) = size_bound (form_of n.value)

size_in_bound : {P : Type 0} (s : Slot P) → size s ≤ 2104
size_in_bound s = in_node s.node

waiting_one : (b : Bool) (n : ℕ) → n ≤ 2104 → (if b then n else 0) ≤ 2104
waiting_one true n l = l
waiting_one false n l = omega arith

-- at most as many nodes wait as there are cells
pub waiting_few : {P : Type 0} (st : Store (Slot P)) → waiting st ≤ length st.cells
waiting_few st = (let a = total_bound waits 1 (λ s. waits_one s.word.retired) st.cells in omega (arith, a))

-- the nodes that wait have at most 2,104 bytes for each cell
pub bytes_few : {P : Type 0} (st : Store (Slot P)) → waiting_bytes st ≤ 2104 * length st.cells
bytes_few st = total_bound waiting_size 2104 (λ s. waiting_one s.word.retired (size s) (size_in_bound s)) st.cells
