-- What stands for a word's value is that value again, and words stand in the order of their values.
use Rattle.std.proofs.Common.{◌≡◌, ℕ, suc, ◌+◌, ◌-◌, ◌*◌, ◌/◌, ◌%◌, ◌^◌, ◌<◌, ◌↔◌, Bool, true, false, cond, ltb, List, [], ◌∷◌, length, refl, rules, arith, ap}
use Rattle.std.specs.Prelude.{ℤ, pos, negsuc, FitsSigned, slice_index, ◌<ℤ◌, ◌≤ℤ◌, ◌+ℤ◌}
use Rattle.std.specs.Int.{w32, w64, from_be_bytes, to_be_bytes}
use Rattle.std.specs.Char.{IsScalar}
use Rattle.std.specs.Cmp.{ranks, int_ranks}
use Rattle.std.specs.Cmp.Lexicographic.{slice_cmp}
use Rattle.std.specs.Ordering.{MatchOrdering, bool_cmp, int_cmp, nat_cmp, ordering_then}
use Rattle.std.specs.declared.cmp.Ordering.{Ordering}
use Rattle.std.specs.declared.cmp.Ordering.TheVariants.{Equal, Greater, Less}
use Rattle.std.proofs.Math.Nat.{mod-eq_of_lt, mul-le-mul_right, pow-suc, suc-mul}
use Rattle.std.proofs.Math.Utf8.{scalar_fits}
use Rattle.std.proofs.lemmas.Bool.Decides.{nat_tests}
use Rattle.std.proofs.lemmas.Int.{ints}
use Rattle.std.proofs.lemmas.Nat.{be_bytes_8, div-mul-add, mod-mul-add}
use Rattle.judge.specs.Words.{AreBytes, above_least, bit_of, char_of, from_least, joined}

pub signed_64 : (k : ℤ) → FitsSigned w64 k → from_least (2 ^ 63) (above_least (2 ^ 63) k) ≡ k
signed_64 (pos n) f = grind (arith, nat_tests)
signed_64 (negsuc n) f = grind (arith, nat_tests)

pub signed_32 : (k : ℤ) → FitsSigned w32 k → from_least (2 ^ 31) (above_least (2 ^ 31) k % 2 ^ 32) ≡ k
signed_32 (pos n) f = grind (arith, nat_tests)
signed_32 (negsuc n) f = grind (arith, nat_tests)

pub bits : (k : Bool) → ltb 0 (bit_of k) ≡ k
bits true = refl
bits false = refl

pub chars : (k : ℕ) → IsScalar k → char_of (k % 2 ^ 32) ≡ k
chars k f =
    let small : k < 2 ^ 32 = scalar_fits k f in
    rw (mod-eq_of_lt small) (ap (λ b. cond b k 0) f)

pub pairs : (high low : ℕ) → low < 2 ^ 32 → ◌≡◌ {A = ℕ × ℕ} (joined high low / 2 ^ 32, joined high low % 2 ^ 32) (high, low)
pairs high low f = Prim.search (rules, div-mul-add, mod-mul-add)

pub bytes : (k : List ℕ) → AreBytes k → to_be_bytes w64 (from_be_bytes w64 k) ≡ k
bytes k f = be_bytes_8 k (from_be_bytes w64 k) f.eight f.small refl

-- ---- the order of words

-- an answer of a comparison is that of two words
abbrev pub Ranks : Ordering → ℕ → ℕ → Type 0
Ranks o a b = MatchOrdering o (a < b) (a ≡ b) (b < a)

pub less_exactly : (o : Ordering) (a b : ℕ) → Ranks o a b → (o ≡ Less) ↔ (a < b)
less_exactly Less a b h = (λ e. h, λ l. refl)
less_exactly Equal a b h = (λ e. cc, λ l. absurd (omega (arith, h, l)))
less_exactly Greater a b h = (λ e. cc, λ l. absurd (omega (arith, h, l)))

pub numbers_in_order : (a b : ℕ) → (nat_cmp a b ≡ Less) ↔ (a < b)
numbers_in_order a b = less_exactly (nat_cmp a b) a b (ranks a b)

pub bits_in_order : (a b : Bool) → (bool_cmp a b ≡ Less) ↔ (bit_of a < bit_of b)
bits_in_order true true = less_exactly Equal 1 1 refl
bits_in_order true false = less_exactly Greater 1 0 (omega arith)
bits_in_order false true = less_exactly Less 0 1 (omega arith)
bits_in_order false false = less_exactly Equal 0 0 refl

-- two words of two parts each, of which the lower ones are less than the worth of one in the higher ones
joined_in_order : (o p : Ordering) (w x y n m : ℕ) → Ranks o x y → Ranks p n m → n < w → m < w → Ranks (ordering_then o p) (x * w + n) (y * w + m)
joined_in_order Less p w x y n m h k short long = omega (arith, mul-le-mul_right w h, suc-mul x w, short)
joined_in_order Greater p w x y n m h k short long = omega (arith, mul-le-mul_right w h, suc-mul y w, long)
joined_in_order Equal Less w x y n m h k short long = omega (arith, ap (λ z. z * w) h, k)
joined_in_order Equal Equal w x y n m h k short long = omega (arith, ap (λ z. z * w) h, k)
joined_in_order Equal Greater w x y n m h k short long = omega (arith, ap (λ z. z * w) h, k)

pub pairs_in_order : (a b c d : ℕ) → b < 2 ^ 32 → d < 2 ^ 32 → (ordering_then (nat_cmp a c) (nat_cmp b d) ≡ Less) ↔ (joined a b < joined c d)
pairs_in_order a b c d f g = less_exactly _ (joined a b) (joined c d) (joined_in_order (nat_cmp a c) (nat_cmp b d) (2 ^ 32) a c b d (ranks a c) (ranks b d) f g)

-- signed numbers
above_in_order : (half : ℕ) (a b : ℤ) → pos 0 ≤ℤ (a +ℤ pos half) → pos 0 ≤ℤ (b +ℤ pos half) → a <ℤ b → above_least half a < above_least half b
above_in_order half (pos n) (pos m) f g h = omega (arith, ints)
above_in_order half (pos n) (negsuc m) f g h = omega (arith, ints)
above_in_order half (negsuc n) (pos m) f g h = omega (arith, ints)
above_in_order half (negsuc n) (negsuc m) f g h = omega (arith, ints)

above_ranks : (half : ℕ) (o : Ordering) (a b : ℤ) → pos 0 ≤ℤ (a +ℤ pos half) → pos 0 ≤ℤ (b +ℤ pos half) → MatchOrdering o (a <ℤ b) (a ≡ b) (b <ℤ a) → Ranks o (above_least half a) (above_least half b)
above_ranks half Less a b f g h = above_in_order half a b f g h
above_ranks half Equal a b f g h = ap (above_least half) h
above_ranks half Greater a b f g h = above_in_order half b a g f h

pub signed_64_in_order : (a b : ℤ) → FitsSigned w64 a → FitsSigned w64 b → (int_cmp a b ≡ Less) ↔ (above_least (2 ^ 63) a < above_least (2 ^ 63) b)
signed_64_in_order a b f g = less_exactly (int_cmp a b) _ _ (above_ranks (2 ^ 63) (int_cmp a b) a b (omega (arith, ints)) (omega (arith, ints)) (int_ranks a b))

pub signed_32_in_order : (a b : ℤ) → FitsSigned w32 a → FitsSigned w32 b → (int_cmp a b ≡ Less) ↔ (above_least (2 ^ 31) a < above_least (2 ^ 31) b)
signed_32_in_order a b f g = less_exactly (int_cmp a b) _ _ (above_ranks (2 ^ 31) (int_cmp a b) a b (omega (arith, ints)) (omega (arith, ints)) (int_ranks a b))

-- bytes, the first of which are worth the most
worth : List ℕ → ℕ
worth [] = 0
worth (x ∷ xs) = x * 256 ^ length xs + worth xs

Small : List ℕ → Type 0
Small xs = (i : ℕ) → slice_index xs i < 256

worth_below : (xs : List ℕ) → ((i : ℕ) → slice_index xs i < 256) → worth xs < 256 ^ length xs
unfolding worth
worth_below [] f = omega arith
worth_below (x ∷ xs) f = omega (arith, mul-le-mul_right (256 ^ length xs) (f 0), suc-mul x (256 ^ length xs), pow-suc 256 (length xs), worth_below xs (λ i. f (suc i)))

worth_ranks : (xs ys : List ℕ) → length xs ≡ length ys → ((i : ℕ) → slice_index xs i < 256) → ((i : ℕ) → slice_index ys i < 256) → Ranks (slice_cmp nat_cmp xs ys) (worth xs) (worth ys)
unfolding worth
worth_ranks [] [] e f g = refl
worth_ranks [] (y ∷ ys) e f g = absurd (omega arith)
worth_ranks (x ∷ xs) [] e f g = absurd (omega arith)
worth_ranks (x ∷ xs) (y ∷ ys) e f g =
    let same : length xs ≡ length ys = omega arith in
    let below : worth ys < 256 ^ length xs = rw same (worth_below ys (λ i. g (suc i))) in
    rw (← same) (joined_in_order (nat_cmp x y) (slice_cmp nat_cmp xs ys) (256 ^ length xs) x y (worth xs) (worth ys) (ranks x y) (worth_ranks xs ys same (λ i. f (suc i)) (λ i. g (suc i))) (worth_below xs (λ i. f (suc i))) below)

worth_is : (xs : List ℕ) → length xs ≡ 8 → from_be_bytes w64 xs ≡ worth xs
unfolding worth
worth_is (a ∷ b ∷ c ∷ d ∷ e ∷ f ∷ g ∷ h ∷ []) l = omega arith
worth_is _ l = absurd (omega arith)

pub bytes_in_order : (a b : List ℕ) → AreBytes a → AreBytes b → (slice_cmp nat_cmp a b ≡ Less) ↔ (from_be_bytes w64 a < from_be_bytes w64 b)
bytes_in_order a b f g =
    rw (worth_is a f.eight, worth_is b g.eight)
    (less_exactly (slice_cmp nat_cmp a b) (worth a) (worth b) (worth_ranks a b (omega (arith, f.eight, g.eight)) f.small g.small))
