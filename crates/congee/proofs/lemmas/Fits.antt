-- Prefixes and keys.
use Rattle.std.proofs.Common.{◌≡◌, ◌≢◌, ℕ, zero, suc, ◌<◌, ◌==◌, ◌&&◌, Bool, true, false, List, [], ◌∷◌, length, get_or, refl, sym, ap, subst, arith}
use Rattle.std.proofs.lemmas.Bool.Decides.{nat_tests}
use Rattle.congee.specs.Heap.{fits}

-- where two tests together are true, each is
pub both_true : (a b : Bool) → a && b ≡ true → (a ≡ true) × (b ≡ true)
both_true true b h = (refl, h)
both_true false b h = (h, absurd (cc))

-- two tests that are true are so together
pub and_true : (a b : Bool) → a ≡ true → b ≡ true → a && b ≡ true
and_true true b p q = q
and_true false b p q = p

-- numbers that the test finds equal are
pub equal_of_test : (x y : ℕ) → x == y ≡ true → x ≡ y
equal_of_test x y h = grind (arith, nat_tests)

-- a beginning of what begins a key begins the key
pub fits_trans : (p q key : List ℕ) → fits p q ≡ true → fits q key ≡ true → fits p key ≡ true
fits_trans [] q key a b = refl
fits_trans (x ∷ p) [] key a b = absurd cc
fits_trans (x ∷ p) (y ∷ q) [] a b = absurd cc
fits_trans (x ∷ p) (y ∷ q) (z ∷ key) a b =
    let a' : (x == y ≡ true) × (fits p q ≡ true) = both_true _ _ a in
    let b' : (y == z ≡ true) × (fits q key ≡ true) = both_true _ _ b in
    let e : x ≡ y = equal_of_test x y a'.0 in
    and_true _ _ (let P : ℕ → Type 0 = λ n. n == z ≡ true in subst P (sym e) b'.0) (fits_trans p q key a'.1 b'.1)

-- a key has the bytes of what begins it
pub fits_byte : (q key : List ℕ) (i : ℕ) → fits q key ≡ true → i < length q → get_or key i 0 ≡ get_or q i 0
fits_byte [] key i a b = absurd (omega arith)
fits_byte (x ∷ q) [] i a b = absurd cc
fits_byte (x ∷ q) (y ∷ key) zero a b = sym (equal_of_test x y (both_true _ _ a).0)
fits_byte (x ∷ q) (y ∷ key) (suc i) a b = fits_byte q key i (both_true _ _ a).1 (omega arith)

-- two keys with one prefix of all but one byte, and that byte
pub same_key : (p k l : List ℕ) → fits p k ≡ true → fits p l ≡ true → length k ≡ suc (length p) → length l ≡ suc (length p) → get_or k (length p) 0 ≡ get_or l (length p) 0 → k ≡ l
same_key [] [] l a b c d e = absurd (omega arith)
same_key [] (y ∷ k) [] a b c d e = absurd (omega arith)
same_key [] (y ∷ []) (z ∷ []) a b c d e = ap (λ x. x ∷ []) e
same_key [] (y ∷ []) (z ∷ (w ∷ l)) a b c d e = absurd (omega arith)
same_key [] (y ∷ (w ∷ k)) (z ∷ l) a b c d e = absurd (omega arith)
same_key (x ∷ p) [] l a b c d e = absurd cc
same_key (x ∷ p) (y ∷ k) [] a b c d e = absurd cc
same_key (x ∷ p) (y ∷ k) (z ∷ l) a b c d e =
    let a' : (x == y ≡ true) × (fits p k ≡ true) = both_true _ _ a in
    let b' : (x == z ≡ true) × (fits p l ≡ true) = both_true _ _ b in
    let f : x ≡ y = equal_of_test x y a'.0 in
    let g : x ≡ z = equal_of_test x z b'.0 in
    let h : k ≡ l = same_key p k l a'.1 b'.1 (omega arith) (omega arith) e in
    cc

-- equal numbers pass the test of equality
pub same_test : (m n : ℕ) → m ≡ n → m == n ≡ true
same_test m n e = grind (arith, nat_tests)

-- different numbers fail the test of equality
pub other_test : (m n : ℕ) → m ≢ n → m == n ≡ false
other_test m n e = grind (arith, nat_tests)

-- two beginnings of one key that are as long as each other
pub fits_same : (p q key : List ℕ) → fits p key ≡ true → fits q key ≡ true → length p ≡ length q → p ≡ q
fits_same [] [] key a b l = refl
fits_same [] (y ∷ q) key a b l = absurd (omega (arith, l))
fits_same (x ∷ p) [] key a b l = absurd (omega (arith, l))
fits_same (x ∷ p) (y ∷ q) [] a b l = absurd cc
fits_same (x ∷ p) (y ∷ q) (z ∷ key) a b l =
    let a' : (x == z ≡ true) × (fits p key ≡ true) = both_true _ _ a in
    let b' : (y == z ≡ true) × (fits q key ≡ true) = both_true _ _ b in
    let e : x ≡ z = equal_of_test x z a'.0 in
    let f : y ≡ z = equal_of_test y z b'.0 in
    let g : p ≡ q = fits_same p q key a'.1 b'.1 (omega (arith, l)) in
    cc
