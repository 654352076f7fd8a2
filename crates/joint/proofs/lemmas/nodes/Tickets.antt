-- Each ticket has a name of its own, so there are no more tickets than names.
use Rattle.std.proofs.Common.{◌≡◌, ℕ, zero, suc, ◌+◌, ◌<◌, ◌≤◌, arith, subst, inl, inr, ◌⊎◌}
use Rattle.std.proofs.lemmas.Bool.{cases_lt}

module _ (R : ℕ → ℕ → Type 0) where
  -- the relation without the number c, those above it being one less
  abbrev Less : ℕ → ℕ → ℕ → Type 0
  Less c t j = ((j < c) × R t j) ⊎ ((c ≤ j) × R t (j + 1))

  less_above : (c t k : ℕ) → R t k → c ≤ k → (k ≡ c → ⊥) → (j : ℕ) × Less c t j
  less_above c t zero r ge apart = absurd (apart (omega (arith, ge)))
  less_above c t (suc k) r ge apart = elim (cases_lt k c) [
    | inl lt ↦ absurd (apart (omega (arith, ge, lt)))
    | inr up ↦ (k, inr (up, (let P : ℕ → Type 0 = λ y. R t y in let e : suc k ≡ k + 1 = omega arith in subst P e r)))
  ]

  less_total : (c t : ℕ) (x : (k : ℕ) × R t k) → (x.0 ≡ c → ⊥) → (j : ℕ) × Less c t j
  less_total c t x apart = elim (cases_lt x.0 c) [
    | inl lt ↦ (x.0, inl (lt, x.1))
    | inr ge ↦ less_above c t x.0 x.1 ge apart
  ]

-- where each of the first n numbers has a number below N, and no two the same one, n is N at most
pub at_most_by_relation : (N n : ℕ) (R : ℕ → ℕ → Type 0) → ((t : ℕ) → t < n → (k : ℕ) × R t k) → ((t k : ℕ) → t < n → R t k → k < N) → ((t u k : ℕ) → t < n → u < n → R t k → R u k → t ≡ u) → n ≤ N
at_most_by_relation N zero R total bound one = omega arith
at_most_by_relation zero (suc m) R total bound one =
    let x : (k : ℕ) × R m k = total m (omega arith) in
    let bad : x.0 < 0 = bound m x.0 (omega arith) x.1 in
    absurd (omega (arith, bad))
at_most_by_relation (suc N) (suc m) R total bound one =
    let x : (k : ℕ) × R m k = total m (omega arith) in
    let l : x.0 < suc N = bound m x.0 (omega arith) x.1 in
    let r : m ≤ N = at_most_by_relation N m (Less R x.0) (λ t lt. less_total R x.0 t (total t (omega (arith, lt))) (λ e. let P : ℕ → Type 0 = λ k. R t k in let y : R t x.0 = subst P e (total t (omega (arith, lt))).1 in let q : t ≡ m = one t m x.0 (omega (arith, lt)) (omega arith) y x.1 in omega (arith, q, lt)))
    (λ t j lt y. elim y [
      | inl a ↦ (let p : j < x.0 = a.0 in omega (arith, p, l))
      | inr b ↦ (let p : j + 1 < suc N = bound t (j + 1) (omega (arith, lt)) b.1 in omega (arith, p))
    ])
    (λ t u j lt lu y z. elim y [
      | inl a ↦ elim z [ inl b ↦ one t u j (omega (arith, lt)) (omega (arith, lu)) a.1 b.1 | inr b ↦ absurd (let p : j < x.0 = a.0 in let q : x.0 ≤ j = b.0 in omega (arith, p, q)) ]
      | inr a ↦ elim z [ inl b ↦ absurd (let p : x.0 ≤ j = a.0 in let q : j < x.0 = b.0 in omega (arith, p, q)) | inr b ↦ one t u (j + 1) (omega (arith, lt)) (omega (arith, lu)) a.1 b.1 ]
    ]) in
    omega (arith, r)
