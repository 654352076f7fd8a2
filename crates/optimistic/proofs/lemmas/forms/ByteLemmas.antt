-- Bytes of words that are xored and shifted.
use Rattle.std.proofs.Common.{◌≡◌, ◌≢◌, ℕ, zero, suc, ◌+◌, ◌-◌, ◌*◌, ◌/◌, ◌%◌, ◌^◌, ◌<◌, ◌≤◌, arith, ap, ◌∙◌, refl, inl, inr, bit_xor, pow_mono, pow-add, eqb, eq-eqb, true, false, List, get_or}
use Rattle.std.proofs.lemmas.Nat.{shl-shr, xor_shr, xor_mod, xor_lt, shl_below}
use Rattle.std.proofs.lemmas.Nat.Bits.{bit_at_xor, same_from_bits, bit_at-zero, bit_at-lt}
use Rattle.std.proofs.lemmas.Bool.Decides.{nat_tests}
use Rattle.std.proofs.lemmas.Bool.{cases_order}
use Rattle.std.proofs.Math.Nat.{div-eq_of_lt}
use Rattle.std.specs.Int.{bit_at}
use Rattle.optimistic.specs.forms.Bytes.{byte_of, with_at, key_of}

pub byte_below : (w i : ℕ) → byte_of w i < 256
byte_below w i = omega arith

pub eqb_same : (a : ℕ) → eqb a a ≡ true
eqb_same a = eq-eqb a a refl

pub eqb_other : (a b : ℕ) → a ≢ b → eqb a b ≡ false
eqb_other a b n = grind (arith, nat_tests, n)

-- each byte of an exclusive or is that of the bytes
pub byte_xor : (a c i : ℕ) → byte_of (bit_xor a c) i ≡ bit_xor (byte_of a i) (byte_of c i)
byte_xor a c i = ap (λ n. n % 256) (xor_shr a c (8 * i)) ∙ xor_mod (a / 2 ^ (8 * i)) (c / 2 ^ (8 * i)) 8

xor_bit_same : (a b i : ℕ) → bit_at (bit_xor a b) i ≡ 0 → bit_at a i ≡ bit_at b i
xor_bit_same a b i e = omega (arith, bit_at_xor a b i, bit_at-lt a i, bit_at-lt b i)

-- numbers that differ nowhere are equal
pub xor_zero : (a b : ℕ) → bit_xor a b ≡ 0 → a ≡ b
xor_zero a b e = same_from_bits a b (λ i. xor_bit_same a b i (ap (λ n. bit_at n i) e ∙ bit_at-zero i))

pub xor_back : (a b : ℕ) → bit_xor a (bit_xor a b) ≡ b
xor_back a b = same_from_bits _ b (λ i. omega (arith, bit_at_xor a (bit_xor a b) i, bit_at_xor a b i, bit_at-lt a i, bit_at-lt b i))

pub xor_none : (a : ℕ) → bit_xor a 0 ≡ a
xor_none a = same_from_bits _ a (λ i. omega (arith, bit_at_xor a 0 i, bit_at-zero i, bit_at-lt a i))

-- the bytes of a shifted byte
pub shifted_here : (v p : ℕ) → v < 256 → byte_of (v * 2 ^ (8 * p)) p ≡ v
shifted_here v p l = let e = shl-shr v (8 * p) in omega arith

pub shifted_above : (v p q : ℕ) → v < 256 → p < q → byte_of (v * 2 ^ (8 * p)) q ≡ 0
shifted_above v p q l m =
    let small : v * 2 ^ (8 * p) < 2 ^ (8 + 8 * p) = shl_below v 8 (8 * p) l in
    let up : 2 ^ (8 + 8 * p) ≤ 2 ^ (8 * q) = pow_mono {i = 8 + 8 * p} {j = 8 * q} (omega arith) in
    let e : v * 2 ^ (8 * p) / 2 ^ (8 * q) ≡ 0 = div-eq_of_lt (omega arith) in
    omega arith

split_power : (v d q : ℕ) → v * 2 ^ (8 * (d + 1) + 8 * q) ≡ (v * 2 ^ (8 * d) * 256) * 2 ^ (8 * q)
split_power v d q =
    let a = pow-add 2 (8 * (d + 1)) (8 * q) in
    let e : 8 * (d + 1) ≡ 8 * d + 8 = omega arith in
    let b : 2 ^ (8 * (d + 1)) ≡ 2 ^ (8 * d) * 256 = ap (λ n. 2 ^ n) e ∙ pow-add 2 (8 * d) 8 in
    rw (a, b) (grind arith)

pub shifted_below : (v p q : ℕ) → q < p → byte_of (v * 2 ^ (8 * p)) q ≡ 0
shifted_below v p q l =
    let e : 8 * p ≡ 8 * ((p - q - 1) + 1) + 8 * q = omega arith in
    let f : v * 2 ^ (8 * p) ≡ (v * 2 ^ (8 * (p - q - 1)) * 256) * 2 ^ (8 * q) = ap (λ n. v * 2 ^ n) e ∙ split_power v (p - q - 1) q in
    let g : v * 2 ^ (8 * p) / 2 ^ (8 * q) ≡ v * 2 ^ (8 * (p - q - 1)) * 256 = ap (λ n. n / 2 ^ (8 * q)) f ∙ shl-shr (v * 2 ^ (8 * (p - q - 1)) * 256) (8 * q) in
    omega arith

-- a byte put into a word by an exclusive or with what it differs by
pub byte_put : (w p b q : ℕ) → b < 256 → byte_of (bit_xor w (bit_xor (byte_of w p) b * 2 ^ (8 * p))) q ≡ with_at (byte_of w) p b q
byte_put w p b q l =
    let d = bit_xor (byte_of w p) b in
    let small : d < 256 = xor_lt 8 (byte_of w p) b (byte_below w p) l in
    let e = byte_xor w (d * 2 ^ (8 * p)) q in
    elim (cases_order q p) [
      | inl s ↦ rw s (rw (eqb_same p) (byte_xor w (d * 2 ^ (8 * p)) p ∙ ap (bit_xor (byte_of w p)) (shifted_here d p small) ∙ xor_back (byte_of w p) b))
      | inr o ↦ elim o [
        | inl a ↦ rw (eqb_other q p (omega arith)) (e ∙ ap (bit_xor (byte_of w q)) (shifted_below d p q a) ∙ xor_none (byte_of w q))
        | inr a ↦ rw (eqb_other q p (omega arith)) (e ∙ ap (bit_xor (byte_of w q)) (shifted_above d p q small a) ∙ xor_none (byte_of w q))
      ]
    ]

-- a byte at each place
pub spread : (b i : ℕ) → b < 256 → i < 8 → byte_of (b * 72340172838076673) i ≡ b
spread b zero l m = omega arith
spread b (suc zero) l m = omega arith
spread b (suc (suc zero)) l m = omega arith
spread b (suc (suc (suc zero))) l m = omega arith
spread b (suc (suc (suc (suc zero)))) l m = omega arith
spread b (suc (suc (suc (suc (suc zero))))) l m = omega arith
spread b (suc (suc (suc (suc (suc (suc zero)))))) l m = omega arith
spread b (suc (suc (suc (suc (suc (suc (suc zero))))))) l m = omega arith
spread b (suc (suc (suc (suc (suc (suc (suc (suc i)))))))) l m = absurd (omega arith)

-- the bytes of word j of a list
pub word_key : (ws : List ℕ) (j i : ℕ) → i < 8 → key_of ws (8 * j + i) ≡ byte_of (get_or ws j 0) i
word_key ws j i l =
    let d : (8 * j + i) / 8 ≡ j = omega arith in
    let m : (8 * j + i) % 8 ≡ i = omega arith in
    ap (λ x. byte_of (get_or ws x 0) ((8 * j + i) % 8)) d ∙ ap (byte_of (get_or ws j 0)) m

pub first_key : (ws : List ℕ) (i : ℕ) → i < 8 → key_of ws i ≡ byte_of (get_or ws 0 0) i
first_key ws i l =
    let d : i / 8 ≡ 0 = omega arith in
    let m : i % 8 ≡ i = omega arith in
    ap (λ x. byte_of (get_or ws x 0) (i % 8)) d ∙ ap (byte_of (get_or ws 0 0)) m
