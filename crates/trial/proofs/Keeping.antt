-- What workers keep, one entry and one worker more.
use Rattle.std.proofs.Common.{◌≡◌, ℕ, ◌+◌, List, [], ◌∷◌, ◌++◌, length, drop, refl, sym, ap, ◌∙◌, arith, suc, zero, Some, inl, inr, ◌⊎◌, Vec, Global, subst, Option, MatchOption}
use Rattle.std.specs.Prelude.{slice_get}
use Rattle.judge.specs.declared.journal.Entry.{Entry}
use Rattle.trial.specs.Histories.{AreCalls, AreKept, call_at}

-- an element of a list behind which one was put
pub get_pushed : {X : Type 0} (xs : List X) (x y : X) (i : ℕ) → slice_get (xs ++ x ∷ []) i ≡ Some y → (slice_get xs i ≡ Some y) ⊎ ((i ≡ length xs) × (x ≡ y))
get_pushed [] x y zero e = inr (refl, cc)
get_pushed [] x y (suc i) e = absurd cc
get_pushed (z ∷ zs) x y zero e = inl e
get_pushed (z ∷ zs) x y (suc i) e = elim (get_pushed zs x y i e) [ inl h ↦ inl h | inr h ↦ inr (ap suc h.0, h.1) ]

-- one more of which the same holds
pub each_pushed : {X : Type 0} (P : ℕ → X → Type 0) (xs : List X) (x : X) → ((i : ℕ) (y : X) → slice_get xs i ≡ Some y → P i y) → P (length xs) x → (i : ℕ) (y : X) → slice_get (xs ++ x ∷ []) i ≡ Some y → P i y
each_pushed P xs x each here i y g = elim (get_pushed xs x y i g) [
  | inl before ↦ each i y before
  | inr last ↦ subst (P i) last.1 (subst (λ n. P n x) (sym last.0) here)
]

-- one call more
pub calls_pushed : (calls worker : ℕ) (own : List (Entry ℕ)) (e : Entry ℕ) → AreCalls calls worker own → e.call ≡ call_at calls worker (length own) → AreCalls calls worker (own ++ e ∷ [])
calls_pushed calls worker own e made h i x g = elim (get_pushed own e x i g) [
  | inl before ↦ made i x before
  | inr last ↦ ap (λ (y : Entry ℕ). y.call) (sym last.1) ∙ h ∙ ap (λ n. call_at calls worker n) (sym last.0)
]

-- one worker more
pub kept_pushed : (calls : ℕ) (own : List (Vec (Entry ℕ) Global)) (list : Vec (Entry ℕ) Global) → AreKept calls own → AreCalls calls (length own) list.items × (length list.items ≡ calls)
    → AreKept calls (own ++ list ∷ [])
kept_pushed calls own list kept h worker l g = elim (get_pushed own list l worker g) [
  | inl before ↦ kept worker l before
  | inr last ↦ (let P : ℕ → Vec (Entry ℕ) Global → Type 0 = λ w v. AreCalls calls w v.items × (length v.items ≡ calls) in
      subst (P worker) last.1 (subst (λ w. P w list) (sym last.0) h))
]

-- the first of what is left of a list
pub first_left : {X : Type 0} (xs : List X) (n : ℕ) (x : X) (rest : List X) → drop n xs ≡ x ∷ rest → slice_get xs n ≡ Some x
first_left [] zero x rest e = absurd cc
first_left [] (suc n) x rest e = absurd cc
first_left (y ∷ ys) zero x rest e = cc
first_left (y ∷ ys) (suc n) x rest e = first_left ys n x rest e

-- and what is left after it
left_after : {X : Type 0} (xs : List X) (n : ℕ) (x : X) (rest : List X) → drop n xs ≡ x ∷ rest → rest ≡ drop (suc n) xs
left_after [] zero x rest e = absurd cc
left_after [] (suc n) x rest e = absurd cc
left_after (y ∷ ys) zero x rest e = cc
left_after (y ∷ ys) (suc n) x rest e = left_after ys n x rest e

-- and what is left behind that first one
pub rest_left : {X : Type 0} (xs : List X) (n : ℕ) (x : X) (rest : List X) → drop n xs ≡ x ∷ rest → rest ≡ drop (n + 1) xs
rest_left xs n x rest e = left_after xs n x rest e ∙ ap (λ k. drop k xs) (let one : suc n ≡ n + 1 = omega arith in one)

-- a relation of an option at its value
pub at_some : {X : Type 0} (r : Option X) (x : X) (P : Type 0) (Q : X → Type 0) → MatchOption r P Q → r ≡ Some x → Q x
at_some r x P Q m e = subst (λ o. MatchOption o P Q) e m
