-- Sums over the numbers below a bound.
use Rattle.std.proofs.Common.{◌≡◌, ◌≢◌, ℕ, zero, suc, ◌+◌, ◌<◌, ◌≤◌, inl, inr, refl, sym, ap, arith, List, [], ◌∷◌, get_or, ◌∙◌}
use Rattle.std.proofs.lemmas.Bool.{cases_lt}
use Rattle.congee.proofs.lemmas.Tree.{same_or_not}
use Rattle.std.specs.Prelude.{Option, None}

-- the sum of what a function gives for the numbers below a bound
unfoldable pub total : (ℕ → ℕ) → ℕ → ℕ
total f zero = 0
total f (suc n) = total f n + f n

-- functions that agree below a bound have the same sum
pub total_same : (f g : ℕ → ℕ) (n : ℕ) → ((i : ℕ) → i < n → f i ≡ g i) → total f n ≡ total g n
unfolding total
total_same f g zero e = refl
total_same f g (suc n) e =
    let r = total_same f g n (λ i l. e i (omega (arith, l))) in
    let h = e n (omega arith) in
    omega (arith, r, h)

-- a function that gives nothing below a bound has the sum 0
pub total_none : (f : ℕ → ℕ) (n : ℕ) → ((i : ℕ) → i < n → f i ≡ 0) → total f n ≡ 0
unfolding total
total_none f zero e = refl
total_none f (suc n) e =
    let r = total_none f n (λ i l. e i (omega (arith, l))) in
    let h = e n (omega arith) in
    omega (arith, r, h)

-- one number alone gives something
pub total_one : (f : ℕ → ℕ) (n k : ℕ) → k < n → ((i : ℕ) → i < n → i ≢ k → f i ≡ 0) → total f n ≡ f k
unfolding total
total_one f zero k l e = absurd (omega (arith, l))
total_one f (suc n) k l e = elim (same_or_not k n) [
  | inl p ↦
      (let r = total_none f n (λ i m. e i (omega (arith, m)) (omega (arith, m, p))) in
      let h : f n ≡ f k = ap f (sym p) in
      omega (arith, r, h))
  | inr ne ↦
      (let r = total_one f n k (omega (arith, l, ne)) (λ i m q. e i (omega (arith, m)) q) in
      let h = e n (omega arith) (λ q. ne (sym q)) in
      omega (arith, r, h))
]

-- the sum of what two functions give together is that of their sums
pub total_add : (f g : ℕ → ℕ) (n : ℕ) → total (λ i. f i + g i) n ≡ total f n + total g n
unfolding total
total_add f g zero = refl
total_add f g (suc n) = let r = total_add f g n in omega (arith, r)

-- the order of two sums doesn't matter
pub total_swap : (f : ℕ → ℕ → ℕ) (n m : ℕ) → total (λ i. total (λ j. f i j) m) n ≡ total (λ j. total (λ i. f i j) n) m
unfolding total
total_swap f zero m = sym (total_none (λ j. 0) m (λ i l. refl))
total_swap f (suc n) m =
    let r = total_swap f n m in
    let a = total_add (λ j. total (λ i. f i j) n) (λ j. f n j) m in
    omega (arith, r, a)

-- the first number, and the others
pub total_first : (f : ℕ → ℕ) (n : ℕ) → total f (suc n) ≡ f 0 + total (λ i. f (suc i)) n
unfolding total
total_first f zero = omega arith
total_first f (suc n) = let r = total_first f n in omega (arith, r)

-- nothing from a bound on
pub total_beyond : (f : ℕ → ℕ) (n m : ℕ) → n ≤ m → ((i : ℕ) → n ≤ i → f i ≡ 0) → total f m ≡ total f n
unfolding total
total_beyond f n zero l e = ap (total f) (let z : 0 ≡ n = omega (arith, l) in z)
total_beyond f n (suc m) l e = elim (cases_lt m n) [
  | inl lt ↦ ap (total f) (let z : suc m ≡ n = omega (arith, l, lt) in z)
  | inr ge ↦ (let r = total_beyond f n m ge e in let h = e m ge in omega (arith, r, h))
]

-- another number at one place
pub total_update : (f g : ℕ → ℕ) (n k : ℕ) → k < n → ((i : ℕ) → i ≢ k → g i ≡ f i) → total g n + f k ≡ total f n + g k
unfolding total
total_update f g zero k l e = absurd (omega (arith, l))
total_update f g (suc n) k l e = elim (same_or_not k n) [
  | inl p ↦
      (let r = total_same g f n (λ i m. e i (omega (arith, m, p))) in
      let a : f n ≡ f k = ap f (sym p) in
      let b : g n ≡ g k = ap g (sym p) in
      omega (arith, r, a, b))
  | inr ne ↦
      (let r = total_update f g n k (omega (arith, l, ne)) e in
      let h = e n (λ q. ne (sym q)) in
      omega (arith, r, h))
]

-- lists with the same at each place, of whose sum what is missing is no part, have the same sum
pub sum_same : {X : Type 0} (f : Option X → ℕ) (sum : List (Option X) → ℕ) → f None ≡ 0 → sum [] ≡ 0 → ((x : Option X) (xs : List (Option X)) → sum (x ∷ xs) ≡ f x + sum xs)
    → (xs ys : List (Option X)) → ((j : ℕ) → get_or ys j None ≡ get_or xs j None) → sum ys ≡ sum xs
sum_same f sum none empty one [] [] e = refl
sum_same f sum none empty one [] (y ∷ ys) e =
    let h : f y ≡ 0 = ap f (e 0) ∙ none in
    let r : sum ys ≡ 0 = sum_same f sum none empty one [] ys (λ j. e (suc j)) ∙ empty in
    let s = one y ys in
    omega (arith, h, r, s, empty)
sum_same f sum none empty one (x ∷ xs) [] e =
    let h : 0 ≡ f x = sym none ∙ ap f (e 0) in
    let r : 0 ≡ sum xs = sym empty ∙ sum_same f sum none empty one xs [] (λ j. e (suc j)) in
    let s = one x xs in
    omega (arith, h, r, s, empty)
sum_same f sum none empty one (x ∷ xs) (y ∷ ys) e =
    let h : f y ≡ f x = ap f (e 0) in
    let r : sum ys ≡ sum xs = sum_same f sum none empty one xs ys (λ j. e (suc j)) in
    let s = one x xs in
    let u = one y ys in
    omega (arith, h, r, s, u)
