-- The marks of eight bytes, side by side in a byte.
use Rattle.std.proofs.Common.{◌≡◌, ℕ, zero, suc, ◌+◌, ◌-◌, ◌*◌, ◌/◌, ◌%◌, ◌<◌, arith, ap, ◌∙◌}
use Rattle.std.proofs.lemmas.Nat.Bits.{bit_at-lt}
use Rattle.std.specs.Int.{bit_at}
use Rattle.optimistic.specs.forms.Bytes.{byte_of, IsMarked, IsSparse}
use Rattle.optimistic.proofs.lemmas.forms.Trick.{bit_in_byte, top_bit}

-- 0x0102040810204080
abbrev pub gather : ℕ
gather = 72624976668147840

-- high, middle and low part
parted : (q m l : ℕ) → m < 256 → l < 72057594037927936 → (q * 18446744073709551616 + m * 72057594037927936 + l) % 18446744073709551616 / 72057594037927936 ≡ m
parted q m l f g = omega arith

gathered : (a b c d e f g h : ℕ) → a < 2 → b < 2 → c < 2 → d < 2 → e < 2 → f < 2 → g < 2 → h < 2 →
    ((1 * a + 256 * b + 65536 * c + 16777216 * d + 4294967296 * e + 1099511627776 * f + 281474976710656 * g + 72057594037927936 * h) * gather) % 18446744073709551616 / 72057594037927936 ≡ 1 * a + 2 * b + 4 * c + 8 * d + 16 * e + 32 * f + 64 * g + 128 * h
gathered a b c d e f g h l1 l2 l3 l4 l5 l6 l7 l8 =
    let q = 1 * b + 258 * c + 66052 * d + 16909320 * e + 4328785936 * f + 1108169199648 * g + 283691315109952 * h in
    let m = 1 * a + 2 * b + 4 * c + 8 * d + 16 * e + 32 * f + 64 * g + 128 * h in
    let l = 567382630219904 * a + 1134765260439552 * b + 2269530520813568 * c + 4539061024849920 * d + 9078117754732544 * e + 18155135997837312 * f + 36028797018963968 * g in
    let split : (1 * a + 256 * b + 65536 * c + 16777216 * d + 4294967296 * e + 1099511627776 * f + 281474976710656 * g + 72057594037927936 * h) * gather ≡ q * 18446744073709551616 + m * 72057594037927936 + l = omega arith in
    ap (λ x. x % 18446744073709551616 / 72057594037927936) split ∙ parted q m l (omega arith) (omega arith)

-- a byte of which no bit but the highest is set
only_top : (t j : ℕ) → IsSparse t → j < 8 → byte_of t j ≡ 128 * bit_at t (8 * j + 7)
only_top t j s l =
    let b0 = bit_in_byte t j 0 (omega arith) in
    let b1 = bit_in_byte t j 1 (omega arith) in
    let b2 = bit_in_byte t j 2 (omega arith) in
    let b3 = bit_in_byte t j 3 (omega arith) in
    let b4 = bit_in_byte t j 4 (omega arith) in
    let b5 = bit_in_byte t j 5 (omega arith) in
    let b6 = bit_in_byte t j 6 (omega arith) in
    omega (arith, b0, b1, b2, b3, b4, b5, b6, s j 0 l (omega arith), s j 1 l (omega arith), s j 2 l (omega arith), s j 3 l (omega arith), s j 4 l (omega arith), s j 5 l (omega arith), s j 6 l (omega arith), top_bit t j)

-- a word by its bytes
by_bytes : (t : ℕ) → t < 18446744073709551616 → t ≡ 1 * byte_of t 0 + 256 * byte_of t 1 + 65536 * byte_of t 2 + 16777216 * byte_of t 3 + 4294967296 * byte_of t 4 + 1099511627776 * byte_of t 5 + 281474976710656 * byte_of t 6 + 72057594037927936 * byte_of t 7
by_bytes t f = omega arith

-- the highest bit of byte j
abbrev pub topped : ℕ → ℕ → ℕ
topped t j = bit_at t (8 * j + 7)

shifted : (t : ℕ) → t < 18446744073709551616 → IsSparse t → t / 128 ≡ 1 * topped t 0 + 256 * topped t 1 + 65536 * topped t 2 + 16777216 * topped t 3 + 4294967296 * topped t 4 + 1099511627776 * topped t 5 + 281474976710656 * topped t 6 + 72057594037927936 * topped t 7
shifted t f s = let whole = by_bytes t f in omega (arith, whole, only_top t 0 s (omega arith), only_top t 1 s (omega arith), only_top t 2 s (omega arith), only_top t 3 s (omega arith), only_top t 4 s (omega arith), only_top t 5 s (omega arith), only_top t 6 s (omega arith), only_top t 7 s (omega arith))

packed : (t : ℕ) → t < 18446744073709551616 → IsSparse t → (t / 128 * gather) % 18446744073709551616 / 72057594037927936 ≡ 1 * topped t 0 + 2 * topped t 1 + 4 * topped t 2 + 8 * topped t 3 + 16 * topped t 4 + 32 * topped t 5 + 64 * topped t 6 + 128 * topped t 7
packed t f s =
    ap (λ x. (x * gather) % 18446744073709551616 / 72057594037927936) (shifted t f s) ∙ gathered (topped t 0) (topped t 1) (topped t 2) (topped t 3) (topped t 4) (topped t 5) (topped t 6) (topped t 7) (bit_at-lt t 7) (bit_at-lt t 15) (bit_at-lt t 23) (bit_at-lt t 31) (bit_at-lt t 39) (bit_at-lt t 47) (bit_at-lt t 55) (bit_at-lt t 63)

abbrev sum_of : (a b c d e f g h : ℕ) → ℕ
sum_of a b c d e f g h = 1 * a + 2 * b + 4 * c + 8 * d + 16 * e + 32 * f + 64 * g + 128 * h

sum_bits : (a b c d e f g h : ℕ) → a < 2 → b < 2 → c < 2 → d < 2 → e < 2 → f < 2 → g < 2 → h < 2 →
    (bit_at (sum_of a b c d e f g h) 0 ≡ a) × (bit_at (sum_of a b c d e f g h) 1 ≡ b) × (bit_at (sum_of a b c d e f g h) 2 ≡ c) × (bit_at (sum_of a b c d e f g h) 3 ≡ d) × (bit_at (sum_of a b c d e f g h) 4 ≡ e) × (bit_at (sum_of a b c d e f g h) 5 ≡ f) × (bit_at (sum_of a b c d e f g h) 6 ≡ g) × (bit_at (sum_of a b c d e f g h) 7 ≡ h)
sum_bits a b c d e f g h l1 l2 l3 l4 l5 l6 l7 l8 = (omega arith, omega arith, omega arith, omega arith, omega arith, omega arith, omega arith, omega arith)

sum_at : (t j : ℕ) → j < 8 → bit_at (sum_of (topped t 0) (topped t 1) (topped t 2) (topped t 3) (topped t 4) (topped t 5) (topped t 6) (topped t 7)) j ≡ topped t j
sum_at t zero l = (sum_bits (topped t 0) (topped t 1) (topped t 2) (topped t 3) (topped t 4) (topped t 5) (topped t 6) (topped t 7) (bit_at-lt t 7) (bit_at-lt t 15) (bit_at-lt t 23) (bit_at-lt t 31) (bit_at-lt t 39) (bit_at-lt t 47) (bit_at-lt t 55) (bit_at-lt t 63)).0
sum_at t (suc zero) l = (sum_bits (topped t 0) (topped t 1) (topped t 2) (topped t 3) (topped t 4) (topped t 5) (topped t 6) (topped t 7) (bit_at-lt t 7) (bit_at-lt t 15) (bit_at-lt t 23) (bit_at-lt t 31) (bit_at-lt t 39) (bit_at-lt t 47) (bit_at-lt t 55) (bit_at-lt t 63)).1
sum_at t (suc (suc zero)) l = (sum_bits (topped t 0) (topped t 1) (topped t 2) (topped t 3) (topped t 4) (topped t 5) (topped t 6) (topped t 7) (bit_at-lt t 7) (bit_at-lt t 15) (bit_at-lt t 23) (bit_at-lt t 31) (bit_at-lt t 39) (bit_at-lt t 47) (bit_at-lt t 55) (bit_at-lt t 63)).2
sum_at t (suc (suc (suc zero))) l = (sum_bits (topped t 0) (topped t 1) (topped t 2) (topped t 3) (topped t 4) (topped t 5) (topped t 6) (topped t 7) (bit_at-lt t 7) (bit_at-lt t 15) (bit_at-lt t 23) (bit_at-lt t 31) (bit_at-lt t 39) (bit_at-lt t 47) (bit_at-lt t 55) (bit_at-lt t 63)).3
sum_at t (suc (suc (suc (suc zero)))) l = (sum_bits (topped t 0) (topped t 1) (topped t 2) (topped t 3) (topped t 4) (topped t 5) (topped t 6) (topped t 7) (bit_at-lt t 7) (bit_at-lt t 15) (bit_at-lt t 23) (bit_at-lt t 31) (bit_at-lt t 39) (bit_at-lt t 47) (bit_at-lt t 55) (bit_at-lt t 63)).4
sum_at t (suc (suc (suc (suc (suc zero))))) l = (sum_bits (topped t 0) (topped t 1) (topped t 2) (topped t 3) (topped t 4) (topped t 5) (topped t 6) (topped t 7) (bit_at-lt t 7) (bit_at-lt t 15) (bit_at-lt t 23) (bit_at-lt t 31) (bit_at-lt t 39) (bit_at-lt t 47) (bit_at-lt t 55) (bit_at-lt t 63)).5
sum_at t (suc (suc (suc (suc (suc (suc zero)))))) l = (sum_bits (topped t 0) (topped t 1) (topped t 2) (topped t 3) (topped t 4) (topped t 5) (topped t 6) (topped t 7) (bit_at-lt t 7) (bit_at-lt t 15) (bit_at-lt t 23) (bit_at-lt t 31) (bit_at-lt t 39) (bit_at-lt t 47) (bit_at-lt t 55) (bit_at-lt t 63)).6
sum_at t (suc (suc (suc (suc (suc (suc (suc zero))))))) l = (sum_bits (topped t 0) (topped t 1) (topped t 2) (topped t 3) (topped t 4) (topped t 5) (topped t 6) (topped t 7) (bit_at-lt t 7) (bit_at-lt t 15) (bit_at-lt t 23) (bit_at-lt t 31) (bit_at-lt t 39) (bit_at-lt t 47) (bit_at-lt t 55) (bit_at-lt t 63)).7
sum_at t (suc (suc (suc (suc (suc (suc (suc (suc j)))))))) l = absurd (omega arith)

-- bit j of what is gathered is the highest of byte j
pub packed_bit : (t j : ℕ) → t < 18446744073709551616 → IsSparse t → j < 8 → bit_at ((t / 128 * gather) % 18446744073709551616 / 72057594037927936) j ≡ bit_at t (8 * j + 7)
packed_bit t j f s l = ap (λ x. bit_at x j) (packed t f s) ∙ sum_at t j l

one_place : (p : ℕ) → 1 * p + (1 - 1) ≡ p
one_place p = omega arith

-- the marks of places in a byte
pub packed_marks : (key : ℕ → ℕ) (b t : ℕ) → t < 18446744073709551616 → IsSparse t → IsMarked 8 8 key b t → IsMarked 1 8 key b ((t / 128 * gather) % 18446744073709551616 / 72057594037927936)
packed_marks key b t f s m = record {
  below = λ p l h k n. packed_bit t k f s (omega arith) ∙ m.below p l h (8 * k + 7) (omega arith);
  here = λ p l e h. ap (bit_at ((t / 128 * gather) % 18446744073709551616 / 72057594037927936)) (one_place p) ∙ packed_bit t p f s l ∙ m.here p l e h;
  fits = omega arith;
}
