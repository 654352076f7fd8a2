-- The places of a journal: how many are reserved after a step, and that there is room for an entry.
use Rattle.std.proofs.Common.{◌≡◌, ℕ, zero, suc, ◌+◌, ◌<◌, ◌≤◌, arith, Bool, true, false, List, [], ◌∷◌, ◌++◌, refl, ◌∙◌, ap, subst, inl, inr}
use Rattle.std.specs.Prelude.{not, ltb, ◌&&◌, length}
use Rattle.std.proofs.lemmas.Bool.{cases_Bool, ltb-true, lt-ltb}
use Rattle.std.proofs.lemmas.List.{length-append}
use Rattle.joint.specs.engine.Log.{Log, has_room, is_full, counted, recounted}

-- where the journal isn't full a place is free
room_left : (n p : ℕ) → 0 < p → (ltb 0 p && not (ltb n p)) ≡ false → n < p
room_left n zero l e = absurd (omega (arith, l))
room_left n (suc p) l e = elim (cases_Bool (ltb n (suc p))) [
  | inl b ↦ ltb-true n (suc p) b
  | inr b ↦ absurd (let P : Bool → Type 0 = λ x. (ltb 0 (suc p) && not x) ≡ false in let q : (ltb 0 (suc p) && true) ≡ false = subst P b e in let r : ltb 0 (suc p) ≡ true = lt-ltb 0 (suc p) (omega arith) in let t : (true && true) ≡ false = subst (λ x. (x && true) ≡ false) r q in cc)
]

-- a journal that is kept and isn't full has a free place that nobody has reserved
not_full : {V : Type 0} (l : Log V) → 0 < l.places → is_full l ≡ false → length l.entries + l.reserved < l.places
not_full l p e = room_left (length l.entries + l.reserved) l.places p e

counted_room : (n r p : ℕ) (before after : Bool) → n + r ≤ p → (before ≡ false → after ≡ true → n + r < p) → n + counted before after r ≤ p
counted_room n r p true true h x = h
counted_room n r p false false h x = h
counted_room n r p true false h x = omega (arith, h)
counted_room n r p false true h x = let l : n + r < p = x refl refl in omega (arith, l)

-- the entries and the reserved places are at most all after a step that reserves one only where the journal isn't full
pub recounted_room : {V : Type 0} (l : Log V) (before after : Bool) → length l.entries + l.reserved ≤ l.places → (before ≡ false → after ≡ true → is_full l ≡ false) → length l.entries + recounted l.places before after l.reserved ≤ l.places
recounted_room l before after h x = by l.places refl where
  by : (p : ℕ) → l.places ≡ p → length l.entries + recounted p before after l.reserved ≤ l.places
  by zero e = h
  by (suc p) e = counted_room (length l.entries) l.reserved l.places before after h (λ b a. not_full l (omega (arith, e)) (x b a))

-- the reserved places are fewer than all where one more is wanted
pub fewer : {V : Type 0} (l : Log V) (before after : Bool) → (before ≡ false → after ≡ true → is_full l ≡ false) → before ≡ false → after ≡ true → 0 < l.places → l.reserved < l.places
fewer l before after x b a p = let n : length l.entries + l.reserved < l.places = not_full l p (x b a) in omega (arith, n)

-- where there is room, the entries and the reserved places are fewer than all
pub has_room_is : {V : Type 0} (l : Log V) → has_room l ≡ true → length l.entries + l.reserved < l.places
has_room_is l e = ltb-true (length l.entries + l.reserved) l.places e

-- one more entry has its place where they are fewer
pub pushed_room : {A : Type 0} (xs ys : List A) (x : A) (r p : ℕ) → length xs + r < p → ys ≡ xs ++ x ∷ [] → length ys + r ≤ p
pushed_room xs ys x r p l e =
    let n : length ys ≡ length xs + 1 = ap length e ∙ length-append xs (x ∷ []) in
    omega (arith, l, n)
