-- Whether two maps are the same, as a test of their pairs tells.
use Rattle.std.proofs.Common.{◌≡◌, ℕ, ◌&&◌, Bool, true, false, List, [], ◌∷◌, nat_eq, refl, sym, ap, ◌∙◌, arith}
use Rattle.std.specs.Prelude.{IsTrue}
use Rattle.std.specs.Ordering.{nat_cmp}
use Rattle.std.specs.Cmp.Lexicographic.{pointwise}
use Rattle.std.specs.FinMap as map
use Rattle.std.proofs.lemmas.Bool.Decides.{nat_tests}
use Rattle.congee.specs.owned.Compared.{same_pairs}

abbrev is_pair : ℕ × ℕ → ℕ × ℕ → Bool
is_pair p q = nat_eq p.0 q.0 && nat_eq p.1 q.1

itself : (p : ℕ × ℕ) → is_pair p p ≡ true
itself p = grind (arith, nat_tests)

one_pair : (a b k v : ℕ) → is_pair (a, b) (k, v) ≡ true → ◌≡◌ {A = ℕ × ℕ} (a, b) (k, v)
one_pair a b k v e =
    let first : a ≡ k = grind (arith, nat_tests, e) in
    let second : b ≡ v = grind (arith, nat_tests, e) in
    ap (λ z. (z, b)) first ∙ ap (λ z. (k, z)) second

both_left : (a b : Bool) → (a && b) ≡ true → a ≡ true
both_left true b e = refl
both_left false b e = absurd (cc e)

both_right : (a b : Bool) → (a && b) ≡ true → b ≡ true
both_right true b e = e
both_right false b e = absurd (cc e)

all_itself : (xs : List (ℕ × ℕ)) → pointwise is_pair xs xs ≡ true
all_itself [] = refl
all_itself (x ∷ xs) = ap (λ b. b && pointwise is_pair xs xs) (itself x) ∙ all_itself xs

all_one : (xs ys : List (ℕ × ℕ)) → pointwise is_pair xs ys ≡ true → xs ≡ ys
all_one [] [] e = refl
all_one [] (y ∷ ys) e = absurd (cc e)
all_one (x ∷ xs) [] e = absurd (cc e)
all_one (x ∷ xs) (y ∷ ys) e =
    ap (λ z. z ∷ xs) (one_pair x.0 x.1 y.0 y.1 (both_left (is_pair x y) (pointwise is_pair xs ys) e)) ∙ ap (λ zs. y ∷ zs) (all_one xs ys (both_right (is_pair x y) (pointwise is_pair xs ys) e))

-- an answer that is yes where two maps are the same is what the test tells
pub told_same : (m n : map.FinMap nat_cmp ℕ) (r : Bool) → (IsTrue r → m ≡ n) → (m ≡ n → IsTrue r) → r ≡ same_pairs m n
told_same m n true f g = sym (ap (λ x. pointwise is_pair (map.entries m) (map.entries x)) (sym (f refl)) ∙ all_itself (map.entries m))
told_same m n false f g = by (same_pairs m n) refl
  where
    by : (b : Bool) → same_pairs m n ≡ b → false ≡ b
    by false e = refl
    by true e = absurd (let t = g (map.same_entries_map m n (all_one (map.entries m) (map.entries n) e)) in cc t)
