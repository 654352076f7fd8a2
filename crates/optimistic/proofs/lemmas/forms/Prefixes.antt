-- The first bytes that keys have in common.
use Rattle.std.proofs.Common.{◌≡◌, ◌≢◌, ℕ, suc, ◌+◌, ◌-◌, ◌*◌, ◌/◌, ◌%◌, ◌^◌, ◌<◌, ◌≤◌, inl, inr, arith, ap, sym, ◌∙◌, bit_and, bit_or, bit_xor, pow_pos, pow_mono}
use Rattle.std.proofs.lemmas.Bool.{cases_eq}
use Rattle.std.proofs.lemmas.Nat.{or_shifted, xor_shr, xor_lt, leading_top, shr_high, div_below, le-div}
use Rattle.std.proofs.lemmas.Nat.Bits.{and_high_mask}
use Rattle.std.specs.Int.Bits.{xor_assoc, xor_self, xor_zero_l, xor_zero_r}
use Rattle.std.specs.Int.Count.{count_leading_zeros, leading_of_zero}
use Rattle.optimistic.specs.Layout.{prefix_of, leaf_of, byte_at, where_of}
use Rattle.optimistic.proofs.lemmas.forms.Levels.{key_step}

-- keys with the same first bytes, and then the same byte
pub prefix_more : (d key k : ℕ) → d < 8 → prefix_of key d ≡ prefix_of k d → byte_at key d ≡ byte_at k d → prefix_of key (d + 1) ≡ prefix_of k (d + 1)
prefix_more d key k l p b = key_step key d l ∙ ((λ i. p i * 256 + b i) ∙ sym (key_step k d l))

-- keys with all bytes the same are one
pub prefix_whole : (key k : ℕ) → prefix_of key 8 ≡ prefix_of k 8 → key ≡ k
prefix_whole key k e = omega (arith, e)

xor_none : (a b : ℕ) → bit_xor a b ≡ 0 → a ≡ b
xor_none a b e = sym (xor_zero_r a) ∙ (ap (bit_xor a) (sym (xor_self b)) ∙ (sym (xor_assoc a b b) ∙ (ap (λ (z : ℕ). bit_xor z b) e ∙ xor_zero_l b)))

-- what the highest bit says in which two keys differ
module _ (a b : ℕ) (la : a < 2 ^ 64) (lb : b < 2 ^ 64) where
  abbrev x : ℕ
  x = bit_xor a b

  abbrev zeros : ℕ
  zeros = count_leading_zeros 64 x

  some : x ≢ 0 → 0 < x
  some ne = omega (arith, ne)

  low : x < 2 ^ 64
  low = xor_lt 64 a b la lb

  none_zeros : x ≡ 0 → zeros ≡ 64
  none_zeros e = ap (count_leading_zeros 64) e ∙ leading_of_zero 64

  shifted : (s : ℕ) → x / 2 ^ s ≡ 0 → a / 2 ^ s ≡ b / 2 ^ s
  shifted s e = xor_none (a / 2 ^ s) (b / 2 ^ s) (sym (xor_shr a b s) ∙ e)

  pub common_same : prefix_of a (zeros / 8) ≡ prefix_of b (zeros / 8)
  common_same = elim (cases_eq x 0) [
    | inl e ↦ ap (λ (z : ℕ). prefix_of z (zeros / 8)) (xor_none a b e)
    | inr ne ↦
        let t = leading_top 64 x (some ne) low in
        let m : 2 ^ suc t.0 ≤ 2 ^ (64 - 8 * (zeros / 8)) = pow_mono {i = suc t.0} {j = 64 - 8 * (zeros / 8)} (omega (arith, t.1)) in
        shifted (64 - 8 * (zeros / 8)) (below x (2 ^ (64 - 8 * (zeros / 8))) (omega (arith, t.3, m)))
  ]
    where
      below : (n d : ℕ) → n < d → n / d ≡ 0
      below n d l = let p : n / d < 1 = div_below n d 1 (omega (arith, l)) (omega (arith, l)) in omega (arith, p)

  pub common_apart : zeros / 8 < 8 → byte_at a (zeros / 8) ≢ byte_at b (zeros / 8)
  common_apart l q = elim (cases_eq x 0) [
    | inl e ↦ absurd (omega (arith, none_zeros e, l))
    | inr ne ↦
        let t = leading_top 64 x (some ne) low in
        let p : prefix_of a (zeros / 8 + 1) ≡ prefix_of b (zeros / 8 + 1) = prefix_more (zeros / 8) a b l common_same q in
        let s : ℕ = 64 - 8 * (zeros / 8 + 1) in
        let z : x / 2 ^ s ≡ 0 = xor_shr a b s ∙ (ap (λ (k : ℕ). bit_xor k (b / 2 ^ s)) p ∙ xor_self (b / 2 ^ s)) in
        let m : 2 ^ s ≤ 2 ^ t.0 = pow_mono {i = s} {j = t.0} (omega (arith, t.1)) in
        absurd (above x (2 ^ s) (pow_pos s) (omega (arith, t.2, m)) z)
  ]
    where
      above : (n d : ℕ) → 0 < d → d ≤ n → n / d ≡ 0 → ⊥
      above n d s l z = let p : 1 ≤ n / d = le-div 1 n d s (omega (arith, l)) in omega (arith, p, z)

-- a lone leaf's key
pub leaf_back : (child key : ℕ) → child < 2 ^ 64 → key < 2 ^ 64 → child % 256 ≡ 9 → (leaf_of (bit_or (bit_and key (18446744073709551615 - 18446744073709551615 / 2 ^ 8)) (child / 2 ^ 8)) ≡ child)
    × (prefix_of (bit_or (bit_and key (18446744073709551615 - 18446744073709551615 / 2 ^ 8)) (child / 2 ^ 8)) 1 ≡ prefix_of key 1)
leaf_back child key lc lk nine =
    let m : bit_and key (18446744073709551616 - 2 ^ 56) ≡ key / 2 ^ 56 * 2 ^ 56 = and_high_mask 64 56 (omega arith) key lk in
    let e : bit_or (bit_and key (18446744073709551615 - 18446744073709551615 / 2 ^ 8)) (child / 2 ^ 8) ≡ key / 2 ^ 56 * 2 ^ 56 + child / 2 ^ 8 =
    ap (λ (z : ℕ). bit_or z (child / 2 ^ 8)) m ∙ or_shifted (key / 2 ^ 56) 56 (child / 2 ^ 8) (omega (arith, lc)) in (
      ap leaf_of e ∙ omega (arith, lc, nine),
      ap (λ (z : ℕ). z / 2 ^ 56) e ∙ omega (arith, lc),
    )

-- the first bytes of a where
pub where_head : (form level key : ℕ) → form < 16 → level < 8 → prefix_of (where_of form level key) level ≡ prefix_of key level
where_head form level key f l =
    let m : 2 ^ 8 ≤ 2 ^ (64 - 8 * level) = pow_mono {i = 8} {j = 64 - 8 * level} (omega arith) in
    let e : where_of form level key ≡ prefix_of key level * 2 ^ (64 - 8 * level) + (8 * form + level) = regroup (prefix_of key level * 2 ^ (64 - 8 * level)) (8 * form) level in
    ap (λ (z : ℕ). z / 2 ^ (64 - 8 * level)) e ∙ shr_high (prefix_of key level) (64 - 8 * level) (8 * form + level) (omega (arith, m, f, l))
  where
    regroup : (a b c : ℕ) → a + b + c ≡ a + (b + c)
    regroup a b c = omega arith
