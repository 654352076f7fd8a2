-- The word that says which keys a node covers.
use Rattle.std.proofs.Common.{◌≡◌, ℕ, ◌+◌, ◌-◌, ◌*◌, ◌/◌, ◌%◌, ◌^◌, ◌<◌, arith, ap, sym, ◌∙◌, bit_and, bit_or, pow_pos, pow_mono, pow-add, shr-shr}
use Rattle.std.proofs.lemmas.Nat.{or_shifted, shr_high, and_mask}
use Rattle.std.proofs.lemmas.Nat.Bits.{ones_shr, and_high_mask}
use Rattle.optimistic.specs.Layout.{prefix_of, where_of, leaf_of, byte_at}

-- the form and the level fit below the prefix
low_small : (form level : ℕ) → form < 16 → level < 8 → 8 * form + level < 2 ^ (64 - 8 * level)
low_small form level f l = omega (arith, pow_mono {i = 8} {j = 64 - 8 * level} (omega arith))

sum_of_three : (a b c : ℕ) → a + (b + c) ≡ a + b + c
sum_of_three a b c = omega arith

pub where_is : (form level key : ℕ) → key < 2 ^ 64 → level < 8 → form < 16 → bit_or (bit_and key (18446744073709551615 - 18446744073709551615 / 2 ^ (8 * level))) (8 * form + level) ≡ where_of form level key
where_is form level key small l f =
    let k = 64 - 8 * level in
    let a : 18446744073709551615 - 18446744073709551615 / 2 ^ (8 * level) ≡ 18446744073709551616 - 2 ^ k = omega (arith, ones_shr 64 (8 * level) (omega arith), pow_pos k) in
    ap (λ x. bit_or (bit_and key x) (8 * form + level)) a ∙ ap (λ x. bit_or x (8 * form + level)) (and_high_mask 64 k (omega arith) key small)
    ∙ or_shifted (key / 2 ^ k) k (8 * form + level) (low_small form level f l) ∙ sum_of_three (key / 2 ^ k * 2 ^ k) (8 * form) level

times_power : (p d : ℕ) → p * 2 ^ (d + 8) ≡ (p * 2 ^ d) * 256
times_power p d = let a = pow-add 2 d 8 in rw a (grind arith)

pub where_low : (form level key : ℕ) → level < 8 → form < 16 → where_of form level key % 256 ≡ 8 * form + level
where_low form level key l f =
    let d = 56 - 8 * level in
    let e : 64 - 8 * level ≡ d + 8 = omega arith in
    let g : prefix_of key level * 2 ^ (64 - 8 * level) ≡ (prefix_of key level * 2 ^ d) * 256 = ap (λ x. prefix_of key level * 2 ^ x) e ∙ times_power (prefix_of key level) d in
    omega (arith, g, l, f)

pub where_level : (form level key : ℕ) → level < 8 → form < 16 → where_of form level key % 8 ≡ level
where_level form level key l f = omega (arith, where_low form level key l f, l)

pub where_form : (form level key : ℕ) → level < 8 → form < 16 → where_of form level key / 8 % 32 ≡ form
where_form form level key l f = omega (arith, where_low form level key l f, l, f)

where_prefix : (form level key : ℕ) → level < 8 → form < 16 → where_of form level key / 2 ^ (64 - 8 * level) ≡ prefix_of key level
where_prefix form level key l f =
    ap (λ x. x / 2 ^ (64 - 8 * level)) (sym (sum_of_three (prefix_of key level * 2 ^ (64 - 8 * level)) (8 * form) level)) ∙ shr_high (prefix_of key level) (64 - 8 * level) (8 * form + level) (low_small form level f l)

-- nodes of one level that say the same of their keys have the same first bytes
pub where_same : (f g level key other : ℕ) → level < 8 → f < 16 → g < 16 → where_of f level key ≡ where_of g level other → prefix_of key level ≡ prefix_of other level
where_same f g level key other l m n e = sym (where_prefix f level key l m) ∙ ap (λ x. x / 2 ^ (64 - 8 * level)) e ∙ where_prefix g level other l n

-- one more byte of a key
pub key_step : (key level : ℕ) → level < 8 → prefix_of key (level + 1) ≡ prefix_of key level * 256 + byte_at key level
key_step key level l =
    let k = 56 - 8 * level in
    let e : 64 - 8 * (level + 1) ≡ k = omega arith in
    let f : k + 8 ≡ 64 - 8 * level = omega arith in
    let a : prefix_of key (level + 1) ≡ key / 2 ^ k = ap (λ x. key / 2 ^ x) e in
    let b : key / 2 ^ k / 256 ≡ prefix_of key level = shr-shr key k 8 ∙ ap (λ x. key / 2 ^ x) f in
    omega (arith, a, b)

pub key_byte_is : (key level : ℕ) → bit_and (key / 2 ^ (56 - 8 * level)) 255 ≡ byte_at key level
key_byte_is key level = and_mask (key / 2 ^ (56 - 8 * level)) 8

-- a lone leaf is of one key alone among those with its first byte
pub leaf_whole : (other key : ℕ) → other / 72057594037927936 ≡ key / 72057594037927936 → leaf_of other ≡ leaf_of key → other ≡ key
leaf_whole other key p e = omega (arith, p, e)
