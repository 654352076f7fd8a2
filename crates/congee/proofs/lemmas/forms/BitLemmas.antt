-- One bit of a mask.
use Rattle.std.proofs.Common.{◌≡◌, ◌≢◌, ℕ, ◌<◌, ◌≤◌, ◌+◌, ◌-◌, ◌*◌, ◌/◌, ◌%◌, ◌^◌, List, length, get_or, set, inl, inr, sym, ap, ◌∙◌, bit_and, bit_or, w8, arith}
use Rattle.std.proofs.lemmas.Bool.{cases_lt, cases_eq}
use Rattle.std.proofs.lemmas.List.{get_or-set_same, get_or-set_other, length-set}
use Rattle.std.proofs.Math.Nat.{div-eq_of_lt, pow-le-pow_right}
use Rattle.std.proofs.lemmas.Nat.{shr-shr, shr_le}
use Rattle.std.proofs.lemmas.Nat.Bits.{bit_at-zero, bit_at_set_same, bit_at_set_other, bit_at_clear_same, bit_at_clear_other, bit_at-trailing_zeros}
use Rattle.std.specs.Int.{bit_at, trailing_zeros}
use Rattle.congee.specs.forms.Mask.{bit_of, SetAt}

-- byte q lies elsewhere: in another mask byte, or at another bit of the same
other_bit : (q b : ℕ) → q ≢ b → q / 8 ≡ b / 8 → q % 8 ≢ b % 8
other_bit q b n e f = n (omega (arith, e, f))

written : (mask : List ℕ) (b n v : ℕ) → length mask ≡ 32 → b < 256 → bit_at v (b % 8) ≡ n → ((i : ℕ) → i < 8 → i ≢ b % 8 → bit_at v i ≡ bit_at (get_or mask (b / 8) 0) i) → SetAt mask b n (set mask (b / 8) v)
written mask b n v l h here other = record {
  size = length-set mask (b / 8) v;
  here = ap (λ m. bit_at m (b % 8)) (get_or-set_same mask (b / 8) v 0 (omega (arith, l))) ∙ here;
  others = λ q m ne. elim (cases_eq (q / 8) (b / 8)) [
    | inl e ↦ ap (λ k. bit_at (get_or (set mask (b / 8) v) k 0) (q % 8)) e
        ∙ ap (λ m. bit_at m (q % 8)) (get_or-set_same mask (b / 8) v 0 (omega (arith, l)))
        ∙ other (q % 8) (omega arith) (other_bit q b ne e)
        ∙ ap (λ k. bit_at (get_or mask k 0) (q % 8)) (sym e)
    | inr d ↦ ap (λ m. bit_at m (q % 8)) (get_or-set_other mask (b / 8) (q / 8) v 0 d)
  ];
}

-- what is written to set a byte's bit in the mask sets that bit, and leaves the others
pub bit_set : (mask : List ℕ) (b : ℕ) → length mask ≡ 32 → b < 256 → SetAt mask b 1 (set mask (b / 8) (bit_or (get_or mask (b / 8) 0) (1 * 2 ^ (b % 8) % 256)))
bit_set mask b l h = written mask b 1 _ l h (bit_at_set_same w8 (get_or mask (b / 8) 0) (b % 8) (omega arith)) (λ i m n. bit_at_set_other w8 (get_or mask (b / 8) 0) (b % 8) (omega arith) i n)

-- what is written to clear a byte's bit in the mask clears that bit, and leaves the others
pub clear_at : (mask : List ℕ) (b : ℕ) → length mask ≡ 32 → b < 256 → SetAt mask b 0 (set mask (b / 8) (bit_and (get_or mask (b / 8) 0) (255 - 1 * 2 ^ (b % 8) % 256)))
clear_at mask b l h = written mask b 0 _ l h (bit_at_clear_same w8 (get_or mask (b / 8) 0) (b % 8) (omega arith)) (λ i m n. bit_at_clear_other w8 (get_or mask (b / 8) 0) (b % 8) (omega arith) i m n)

-- ---- the lowest bit of what is left of a mask byte

bit_up : (m k i : ℕ) → bit_at (m / 2 ^ k) i ≡ bit_at m (k + i)
bit_up m k i = ap (λ n. n % 2) (shr-shr m k i)

bit_past : (m j : ℕ) → m < 256 → 8 ≤ j → bit_at m j ≡ 0
bit_past m j l h =
    let up : 2 ^ 8 ≤ 2 ^ j = pow-le-pow_right (omega arith) h in
    ap (λ n. n % 2) (div-eq_of_lt (omega (arith, up)))

same_byte : (b i : ℕ) → b % 8 + i < 8 → ((b + i) / 8 ≡ b / 8) × ((b + i) % 8 ≡ b % 8 + i)
same_byte b i l = (omega arith, omega arith)

bit_of_up : (mask : List ℕ) (b i : ℕ) → b % 8 + i < 8 → bit_of mask (b + i) ≡ bit_at (get_or mask (b / 8) 0 / 2 ^ (b % 8)) i
bit_of_up mask b i l =
    let at = same_byte b i l in
    rw (at.0, at.1) (sym (bit_up (get_or mask (b / 8) 0) (b % 8) i))

-- where nothing is left of a mask byte from a bit on, no bit from there on is set in it
pub rest_is_zero : (mask : List ℕ) (b : ℕ) → get_or mask (b / 8) 0 / 2 ^ (b % 8) ≡ 0 → (q : ℕ) → b ≤ q → q < (b / 8 + 1) * 8 → bit_of mask q ≡ 0
rest_is_zero mask b e q h l =
    let i = q - b in
    let there : b + i ≡ q = omega arith in
    ap (bit_of mask) (sym there) ∙ bit_of_up mask b i (omega arith) ∙ ap (λ n. bit_at n i) e ∙ bit_at-zero i

-- byte b + t has the first set bit from byte b on, within one mask byte
pub record Lowest (mask : List ℕ) (b t : ℕ) : Type 0 where
  pub within : b % 8 + t < 8
  pub here : bit_of mask (b + t) ≡ 1
  pub before : (q : ℕ) → b ≤ q → q < b + t → bit_of mask q ≡ 0

-- the zeros at the end of what is left of a mask byte, where that isn't 0, lead to its first set bit
pub lowest : (mask : List ℕ) (b : ℕ) → get_or mask (b / 8) 0 < 256 → get_or mask (b / 8) 0 / 2 ^ (b % 8) ≢ 0 → Lowest mask b (trailing_zeros w8 (get_or mask (b / 8) 0 / 2 ^ (b % 8)))
lowest mask b l n =
    let m = get_or mask (b / 8) 0 in
    let rest = m / 2 ^ (b % 8) in
    let t = trailing_zeros w8 rest in
    let small : rest < 2 ^ 8 = omega (arith, shr_le m (b % 8)) in
    let is = bit_at-trailing_zeros w8 rest (omega (arith, n)) small in
    let within : b % 8 + t < 8 = elim (cases_lt (b % 8 + t) 8) [
      | inl h ↦ h
      | inr h ↦ absurd (omega (arith, is.1, bit_up m (b % 8) t, bit_past m (b % 8 + t) l h))
    ] in
    record {
      within = within;
      here = bit_of_up mask b t within ∙ is.1;
      before = λ q h g.
          let i = q - b in
          let there : b + i ≡ q = omega arith in
          ap (bit_of mask) (sym there) ∙ bit_of_up mask b i (omega (arith, within)) ∙ is.2 i (omega arith);
    }
