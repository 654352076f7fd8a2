-- A property of each of a list's elements, one by one.
use Rattle.std.proofs.Common.{ℕ, List, [], ◌∷◌, ◌++◌}
use Rattle.std.specs.List.{AllByRecursion}

module _ (K : ℕ → Type 0) where
  -- the property is true of each of the list's elements
  abbrev pub Each : List ℕ → Type 0
  Each = AllByRecursion K

  -- what is true of each element of two lists is true of each of both together
  pub each_append : (xs ys : List ℕ) → Each xs → Each ys → Each (xs ++ ys)
  each_append [] ys e f = f
  each_append (x ∷ xs) ys e f = (e.0, each_append xs ys e.1 f)

  -- what is true of each element of two lists together is true of each of the first
  pub each_left : (xs ys : List ℕ) → Each (xs ++ ys) → Each xs
  each_left [] ys e = tt
  each_left (x ∷ xs) ys e = (e.0, each_left xs ys e.1)

  -- what is true of each element of two lists together is true of each of the second
  pub each_right : (xs ys : List ℕ) → Each (xs ++ ys) → Each ys
  each_right [] ys e = e
  each_right (x ∷ xs) ys e = each_right xs ys e.1

-- what is true of everything is true of each
pub each_any : (xs : List ℕ) → Each (λ _. Unit {0}) xs
each_any [] = tt
each_any (x ∷ xs) = (tt, each_any xs)
