-- The list of free cells goes along with what happens to a cell.
use Rattle.std.proofs.Common.{◌≡◌, ℕ, ◌+◌, ◌<◌, ◌≤◌, ◌≢◌, Bool, true, false, List, [], ◌∷◌, ◌++◌, Option, Some, None, refl, sym, ◌∙◌, ap, length, arith, get_or, set, get_or-set_same, get_or-set_other, length-set, inl, inr}
use Rattle.std.specs.Prelude.{if◌then◌else◌, nat_lt, nat_le, is_none, is_some, ◌&&◌, ◌==◌}
use Rattle.std.proofs.lemmas.Bool.{cases_eq, cases_lt, eq-eqb, ne_eqb}
use Rattle.std.proofs.lemmas.Bool.Decides.{nat_tests}
use Rattle.std.proofs.lemmas.List.{length_push, get_or_push, get_or_append_left}
use Rattle.std.proofs.lemmas.List.Sums.{sum_by-cons, sum_by-set, sum_by_push}
use Rattle.crossbeam_epoch.specs.declared.world.cells.Cell.{Cell}
use Rattle.crossbeam_epoch.specs.world.Store.{Store, fresh, is_usable, IsNext, placed}
use Rattle.crossbeam_epoch.specs.world.Free.{FitsFree, is_reusable, is_reusable_at, not_reusable, times}

times_push : (i : ℕ) (free : List ℕ) (at : ℕ) → times i (free ++ at ∷ []) ≡ times i free + (if at == i then 1 else 0)
times_push i free at = sum_by_push (λ x. if x == i then 1 else 0) free at

times_push_same : (free : List ℕ) (at : ℕ) → times at (free ++ at ∷ []) ≡ times at free + 1
times_push_same free at = times_push at free at ∙ ap (λ (b : Bool). times at free + (if b then 1 else 0)) (eq-eqb at at refl)

times_push_other : (i : ℕ) (free : List ℕ) (at : ℕ) → i ≢ at → times i (free ++ at ∷ []) ≡ times i free
times_push_other i free at ne =
    let e = times_push i free at ∙ ap (λ (b : Bool). times i free + (if b then 1 else 0)) (ne_eqb at i (λ s. ne (sym s))) in
    omega (arith, e)

one_is_true : (b : Bool) (n : ℕ) → n + 1 ≡ (if b then 1 else 0) → b ≡ true
one_is_true true n e = refl
one_is_true false n e = absurd (omega (arith, e))

-- a test as a number
abbrev bit : Bool → ℕ
bit b = if b then 1 else 0

no_bit : (a : Bool) → bit (a && false) ≡ 0
no_bit true = refl
no_bit false = refl

-- a cell of the list
pub in_list : {T : Type 0} (cells : List (Cell T)) (rest : List ℕ) (at most turn_max : ℕ) → FitsFree cells (rest ++ at ∷ []) most turn_max → is_reusable_at cells turn_max at ≡ true
in_list cells rest at most turn_max f = one_is_true (is_reusable_at cells turn_max at) (times at rest) (sym (times_push_same rest at) ∙ f.each at)

-- a cell that was used before may take a value: within both bounds, empty, with a turn left
pub record Opens {T : Type 0} (cells : List (Cell T)) (at most turn_max : ℕ) : Type 0 where
  pub inside : at < length cells
  pub below : at < most
  pub empty : is_none (get_or cells at fresh).value ≡ true
  pub turns : (get_or cells at fresh).turns ≤ turn_max

-- the last cell of the list of free cells may take a value
pub opens : {T : Type 0} (cells : List (Cell T)) (rest : List ℕ) (at most turn_max : ℕ) → FitsFree cells (rest ++ at ∷ []) most turn_max → Opens cells at most turn_max
opens cells rest at most turn_max f =
    let is = in_list cells rest at most turn_max f in
    let few = f.few in
    let inside : at < length cells = grind (arith, nat_tests) in
    record { inside = inside; below = omega arith; empty = grind (arith, nat_tests); turns = grind (arith, nat_tests) }

open_set_same : {T : Type 0} (cells : List (Cell T)) (at turn_max : ℕ) (c : Cell T) → at < length cells → is_reusable_at (set cells at c) turn_max at ≡ is_reusable turn_max c
open_set_same cells at turn_max c lt = rw (length-set, get_or-set_same cells at c fresh lt) (inside (nat_lt at (length cells)) (is_reusable turn_max c) (grind (arith, nat_tests)))
  where
    inside : (a b : Bool) → a ≡ true → (a && b) ≡ b
    inside true b e = refl
    inside false b e = absurd (cc e)

open_set_other : {T : Type 0} (cells : List (Cell T)) (at turn_max i : ℕ) (c : Cell T) → i ≢ at → is_reusable_at (set cells at c) turn_max i ≡ is_reusable_at cells turn_max i
open_set_other cells at turn_max i c ne = rw (length-set, get_or-set_other cells at i c fresh ne) refl

-- one cell changes, and the list with it
fits_set : {T : Type 0} (cells : List (Cell T)) (free free' : List ℕ) (at most turn_max : ℕ) (c : Cell T)
    → at < length cells → FitsFree cells free most turn_max
    → ((i : ℕ) → i ≢ at → times i free' ≡ times i free) → times at free' ≡ (if is_reusable turn_max c then 1 else 0)
    → length free' + not_reusable turn_max c ≡ length free + not_reusable turn_max (get_or cells at fresh)
    → FitsFree (set cells at c) free' most turn_max
fits_set cells free free' at most turn_max c lt f same here long = record {
  each = λ i. elim (cases_eq i at) [
    | inl is ↦ rw is (here ∙ ap (λ (b : Bool). if b then 1 else 0) (sym (open_set_same cells at turn_max c lt)))
    | inr ne ↦ (same i ne ∙ f.each i ∙ ap (λ (b : Bool). if b then 1 else 0) (sym (open_set_other cells at turn_max i c ne)))
  ];
  room =
      let r = f.room in
      let s = sum_by-set (not_reusable turn_max) cells at c fresh lt in
      let l = length-set cells at c in
      omega (arith, r, s, l, long);
  few = let l = f.few in rw length-set l;
}

-- a cell of the list is given a value
pub fits_used : {T : Type 0} (cells : List (Cell T)) (rest : List ℕ) (at most turn_max turns : ℕ) (v : T)
    → FitsFree cells (rest ++ at ∷ []) most turn_max → FitsFree (set cells at (record { turns = turns; value = Some v })) rest most turn_max
fits_used cells rest at most turn_max turns v f =
    let o = opens cells rest at most turn_max f in
    let is : is_reusable turn_max (get_or cells at fresh) ≡ true = grind (arith, nat_tests, o.empty, o.turns) in
    let once = sym (times_push_same rest at) ∙ f.each at ∙ ap (λ (b : Bool). if b then 1 else 0) (in_list cells rest at most turn_max f) in
    let free : not_reusable turn_max (get_or cells at fresh) ≡ 0 = ap (λ (b : Bool). if b then 0 else 1) is in
    let long = length_push rest at in
    fits_set cells (rest ++ at ∷ []) rest at most turn_max (record { turns = turns; value = Some v }) o.inside f
    (λ i ne. sym (times_push_other i rest at ne)) (omega (arith, once)) (omega (arith, free, long))

filled_closed : {T : Type 0} (cells : List (Cell T)) (at turn_max : ℕ) (v : T) → (get_or cells at fresh).value ≡ Some v → is_reusable turn_max (get_or cells at fresh) ≡ false
filled_closed cells at turn_max v is = ap (λ o. is_none o && nat_le (get_or cells at fresh).turns turn_max) is

filled_free : {T : Type 0} (cells : List (Cell T)) (free : List ℕ) (at most turn_max : ℕ) (v : T) → FitsFree cells free most turn_max → (get_or cells at fresh).value ≡ Some v → times at free ≡ 0
filled_free cells free at most turn_max v f is =
    f.each at ∙ ap (λ (b : Bool). if nat_lt at (length cells) && b then 1 else 0) (filled_closed cells at turn_max v is) ∙ no_bit (nat_lt at (length cells))

-- a cell's value is another
pub fits_replaced : {T : Type 0} (cells : List (Cell T)) (free : List ℕ) (at most turn_max turns : ℕ) (v w : T)
    → at < length cells → FitsFree cells free most turn_max → (get_or cells at fresh).value ≡ Some v
    → FitsFree (set cells at (record { turns = turns; value = Some w })) free most turn_max
fits_replaced cells free at most turn_max turns v w lt f is =
    let full : not_reusable turn_max (get_or cells at fresh) ≡ 1 = ap (λ (b : Bool). if b then 0 else 1) (filled_closed cells at turn_max v is) in
    fits_set cells free free at most turn_max (record { turns = turns; value = Some w }) lt f
    (λ i ne. refl) (filled_free cells free at most turn_max v f is) (omega (arith, full))

-- a cell's value is taken out, and it has a turn left
pub fits_emptied : {T : Type 0} (cells : List (Cell T)) (free : List ℕ) (at most turn_max turns : ℕ) (v : T)
    → at < length cells → FitsFree cells free most turn_max → (get_or cells at fresh).value ≡ Some v → turns ≤ turn_max
    → FitsFree (set cells at (record { turns = turns; value = None })) (free ++ at ∷ []) most turn_max
fits_emptied {T} cells free at most turn_max turns v lt f is le =
    let c : Cell T = record { turns = turns; value = None } in
    let open_now : is_reusable turn_max c ≡ true = grind (arith, nat_tests) in
    let full : not_reusable turn_max (get_or cells at fresh) ≡ 1 = ap (λ (b : Bool). if b then 0 else 1) (filled_closed cells at turn_max v is) in
    let free_now : not_reusable turn_max c ≡ 0 = ap (λ (b : Bool). if b then 0 else 1) open_now in
    let one : bit (is_reusable turn_max c) ≡ 1 = ap bit open_now in
    let none = filled_free cells free at most turn_max v f is in
    let more = times_push_same free at in
    let long = length_push free at in
    fits_set cells free (free ++ at ∷ []) at most turn_max c lt f
    (λ i ne. times_push_other i free at ne) (omega (arith, none, more, one)) (omega (arith, full, free_now, long))

-- a cell's value is taken out for good
pub fits_spent : {T : Type 0} (cells : List (Cell T)) (free : List ℕ) (at most turn_max turns : ℕ) (v : T)
    → at < length cells → FitsFree cells free most turn_max → (get_or cells at fresh).value ≡ Some v → turn_max < turns
    → FitsFree (set cells at (record { turns = turns; value = None })) free most turn_max
fits_spent {T} cells free at most turn_max turns v lt f is gt =
    let c : Cell T = record { turns = turns; value = None } in
    let spent : is_reusable turn_max c ≡ false = grind (arith, nat_tests) in
    let full : not_reusable turn_max (get_or cells at fresh) ≡ 1 = ap (λ (b : Bool). if b then 0 else 1) (filled_closed cells at turn_max v is) in
    let full_now : not_reusable turn_max c ≡ 1 = ap (λ (b : Bool). if b then 0 else 1) spent in
    let zero_now : bit (is_reusable turn_max c) ≡ 0 = ap bit spent in
    fits_set cells free free at most turn_max c lt f (λ i ne. refl) (filled_free cells free at most turn_max v f is ∙ sym zero_now) (omega (arith, full, full_now))

-- there is room in the list for a cell that has a value
pub room_for : {T : Type 0} (cells : List (Cell T)) (free : List ℕ) (at most turn_max : ℕ) (v : T)
    → at < length cells → FitsFree cells free most turn_max → (get_or cells at fresh).value ≡ Some v → length free < most
room_for {T} cells free at most turn_max v lt f is =
    let r = f.room in
    let few = f.few in
    let s = sum_by-set (not_reusable turn_max) cells at fresh fresh lt in
    let full : not_reusable turn_max (get_or cells at fresh) ≡ 1 = ap (λ (b : Bool). if b then 0 else 1) (filled_closed cells at turn_max v is) in
    let open_first : is_reusable {T = T} turn_max fresh ≡ true = grind (arith, nat_tests) in
    let fresh_open : not_reusable {T = T} turn_max fresh ≡ 0 = ap (λ (b : Bool). if b then 0 else 1) open_first in
    omega (arith, r, few, s, full, fresh_open)

-- a cell is used for the first time
pub fits_pushed : {T : Type 0} (cells : List (Cell T)) (most turn_max turns : ℕ) (v : T)
    → FitsFree cells [] most turn_max → length cells < most → FitsFree (cells ++ (record { turns = turns; value = Some v }) ∷ []) [] most turn_max
fits_pushed {T} cells most turn_max turns v f lt =
    let c : Cell T = record { turns = turns; value = Some v } in
    record {
      each = λ i. elim (cases_lt i (length cells)) [
        | inl in_old ↦
            let l = length_push cells c in
            let more : nat_lt i (length (cells ++ c ∷ [])) ≡ nat_lt i (length cells) = grind (arith, nat_tests) in
            (f.each i ∙ ap (λ (b : Bool). if b then 1 else 0)
            (sym ((λ k. more k && is_reusable turn_max (get_or_append_left cells (c ∷ []) fresh i in_old k)))))
        | inr past ↦ elim (cases_eq (length cells) i) [
          | inl is ↦ sym (ap (λ (d : Cell T). if nat_lt i (length (cells ++ c ∷ [])) && is_reusable turn_max d then 1 else 0) (get_or_push cells c fresh i is) ∙ no_bit (nat_lt i (length (cells ++ c ∷ []))))
          | inr ne ↦
              let l = length_push cells c in
              let out : nat_lt i (length (cells ++ c ∷ [])) ≡ false = grind (arith, nat_tests) in
              sym (ap (λ (b : Bool). if b && is_reusable turn_max (get_or (cells ++ c ∷ []) i fresh) then 1 else 0) out)
        ]
      ];
      room =
          let r = f.room in
          let s = sum_by_push (not_reusable turn_max) cells c in
          let l = length_push cells c in
          omega (arith, r, s, l);
      few = let l = length_push cells c in omega (arith, l, lt);
    }

-- what is seen to have a value has one
pub some_of : {T : Type 0} (o : Option T) → is_some o ≡ true → (v : T) × (o ≡ Some v)
some_of None e = absurd (cc e)
some_of (Some v) e = (v, refl)

-- a value in a cell that may take one
pub placed_next : {T : Type 0} (st : Store T) (cells : List (Cell T)) (at most turn_max turns : ℕ) (v : T) → st ≡ record { cells = cells; most = most; turn_max = turn_max } → Opens cells at most turn_max → turns ≡ (get_or cells at fresh).turns
    → IsNext st (record { cell = at; turn = turns }) × (record { cells = set cells at (record { turns = turns + 1; value = Some v }); most = most; turn_max = turn_max } ≡ placed st (record { cell = at; turn = turns }) v)
placed_next {T} st cells at most turn_max turns v is o same =
    let inside = o.inside in
    let below = o.below in
    let empty = o.empty in
    let few = o.turns in
    let yes : nat_lt at (length cells) ≡ true = grind (arith, nat_tests) in
    let in_most : nat_lt at most ≡ true = grind (arith, nat_tests) in
    let in_turns : nat_le (get_or cells at fresh).turns turn_max ≡ true = grind (arith, nat_tests) in
    let usable : is_usable (record { cells = cells; most = most; turn_max = turn_max }) at ≡ true = (λ k. in_most k && empty k && in_turns k) in
    let c : Cell T = record { turns = turns + 1; value = Some v } in
    rw is (record { usable = usable; turn = same; near = omega arith }, ap (λ (b : Bool). record { cells = if b then set cells at c else cells ++ c ∷ []; most = most; turn_max = turn_max }) (sym yes))

-- a cell of the list is usable
pub some_usable : {T : Type 0} (cells : List (Cell T)) (free : List ℕ) (most turn_max : ℕ) → FitsFree cells free most turn_max → (length free == 0) ≡ false → (i : ℕ) × (is_usable (record { cells = cells; most = most; turn_max = turn_max }) i ≡ true)
some_usable cells [] most turn_max f e = absurd (cc e)
some_usable cells (x ∷ xs) most turn_max f e =
    let each = f.each x in
    let here : bit (x == x) ≡ 1 = ap bit (eq-eqb x x refl) in
    let sum = sum_by-cons (λ y. if y == x then 1 else 0) x xs in
    let is : is_reusable_at cells turn_max x ≡ true = one_is_true (is_reusable_at cells turn_max x) (times x xs) (omega (arith, here, sum) ∙ each) in
    let few = f.few in
    (x, grind (arith, nat_tests))
