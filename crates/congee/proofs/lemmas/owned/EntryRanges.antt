-- Pairs as what stands for them.
use Rattle.std.proofs.Common.{◌≡◌, ℕ, zero, suc, List, [], ◌∷◌, ◌++◌, append-nil, length, take, refl, sym, ap, ◌∙◌}
use Rattle.congee.specs.owned.Ranges.{entries_by}

module _ {X E : Type 0} (entry : ℕ → X → E) where
  -- the first of what stands for pairs is what stands for the first of them
  pub take_entries : (n : ℕ) (es : List (ℕ × X)) → take n (entries_by entry es) ≡ entries_by entry (take n es)
  take_entries zero [] = refl
  take_entries zero ((k, x) ∷ es) = refl
  take_entries (suc n) [] = refl
  take_entries (suc n) ((k, x) ∷ es) = ap (λ r. entry k x ∷ r) (take_entries n es)

  -- what stands for pairs is as many as the pairs
  pub count_entries : (es : List (ℕ × X)) → length (entries_by entry es) ≡ length es
  count_entries [] = refl
  count_entries ((k, x) ∷ es) = ap suc (count_entries es)

-- pairs that stand for themselves
pub same_entries : {X : Type 0} (es : List (ℕ × X)) → entries_by (λ k x. (k, x)) es ≡ es
same_entries [] = refl
same_entries ((k, x) ∷ es) = ap (λ r. (k, x) ∷ r) (same_entries es)

-- no place is left
pub no_room_left : {T : Type 0} (out rest all : List T) (i room : ℕ) → room ≡ 0 → take i out ++ take room rest ≡ all → take i out ≡ all
no_room_left out rest all i room none h = sym (append-nil (take i out)) ∙ ap (λ t. take i out ++ t) (sym (nothing rest)) ∙ ap (λ n. take i out ++ take n rest) (sym none) ∙ h
  where
    nothing : {T : Type 0} (es : List T) → take 0 es ≡ []
    nothing [] = refl
    nothing (e ∷ es) = refl
