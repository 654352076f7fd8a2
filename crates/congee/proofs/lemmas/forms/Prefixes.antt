-- A prefix compared with a key, byte by byte.
use Rattle.std.proofs.Common.{◌≡◌, ℕ, suc, ◌<◌, ◌≤◌, ◌+◌, inl, inr, true, false, List, [], ◌∷◌, length, get_or, refl, sym, subst, arith}
use Rattle.std.proofs.lemmas.Bool.{cases_lt}
use Rattle.congee.specs.Heap.{fits}
use Rattle.congee.proofs.lemmas.Fits.{and_true, same_test}

-- a prefix begins a key that is as long at least and has each of its bytes
pub fits_every : (p key : List ℕ) → length p ≤ length key → ((j : ℕ) → j < length p → get_or key j 0 ≡ get_or p j 0) → fits p key ≡ true
fits_every [] key l e = refl
fits_every (x ∷ p) [] l e = absurd (omega arith)
fits_every (x ∷ p) (y ∷ key) l e = and_true _ _ (same_test x y (sym (e 0 (omega arith)))) (fits_every p key (omega arith) (λ j b. e (suc j) (omega arith)))

-- a key and a prefix that it lacks are the same for one byte more
pub parts_go : (p key : List ℕ) (c : ℕ) → length p ≤ length key → fits p key ≡ false → ((j : ℕ) → j < c → get_or key j 0 ≡ get_or p j 0) → get_or key c 0 ≡ get_or p c 0
    → c < length p → (c + 1 < length p) × ((j : ℕ) → j < c + 1 → get_or key j 0 ≡ get_or p j 0)
parts_go p key c l d same here w =
    let more : (j : ℕ) → j < c + 1 → get_or key j 0 ≡ get_or p j 0 = λ j b. elim (cases_lt j c) [
      | inl lt ↦ same j lt
      | inr ge ↦ (let e : c ≡ j = omega (arith, b, ge) in let Q : ℕ → Type 0 = λ y. get_or key y 0 ≡ get_or p y 0 in subst Q e here)
    ] in (
      elim (cases_lt (c + 1) (length p)) [
        | inl lt ↦ lt
        | inr ge ↦ absurd (let z : fits p key ≡ true = fits_every p key l (λ j b. more j (omega (arith, b, ge))) in cc)
      ],
      more,
    )
