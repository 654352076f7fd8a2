-- The words of a finite map on rising lists, by tests of numbers.
use Rattle.std.proofs.Common.{ℕ, cond, ltb, eqb, List, [], ◌∷◌, Option, None, Some}

-- what a list has under a number
abbrev pub find : {X : Type 0} → ℕ → List (ℕ × X) → Option X
find q [] = None
find q ((k, x) ∷ r) = cond (eqb q k) (Some x) (find q r)

-- the list with this under the number, in the place of what it had there
abbrev pub put : {X : Type 0} → ℕ → X → List (ℕ × X) → List (ℕ × X)
put q x [] = (q, x) ∷ []
put q x ((k, y) ∷ r) = cond (ltb q k) ((q, x) ∷ (k, y) ∷ r) (cond (eqb q k) ((q, x) ∷ r) ((k, y) ∷ put q x r))

-- the list without what it has under the number
abbrev pub del : {X : Type 0} → ℕ → List (ℕ × X) → List (ℕ × X)
del q [] = []
del q ((k, y) ∷ r) = cond (eqb q k) (del q r) ((k, y) ∷ del q r)
