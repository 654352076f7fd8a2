-- The lowest mark tells the lowest place that has a byte.
use Rattle.std.proofs.Common.{◌≡◌, ◌≢◌, ℕ, zero, suc, ◌+◌, ◌-◌, ◌*◌, ◌/◌, ◌%◌, ◌^◌, ◌<◌, ◌≤◌, arith, ap, sym, ◌∙◌, inl, inr, bit_and, bit_or, bit_xor, w64, subst, pow_pos, pow_mono}
use Rattle.std.proofs.lemmas.Nat.Bits.{bit_at_and, bit_at-zero, bit_at-lt, bit_at_ones, bit_at-trailing_zeros, bit_at_above, bit_at_or, bit_at_cat_low, bit_at_cat_high}
use Rattle.std.proofs.lemmas.Nat.{and_le_r, xor_lt, or_lt, shl_whole, shl_below}
use Rattle.std.proofs.lemmas.Bool.{cases_lt, cases_eq}
use Rattle.std.specs.Int.{bit_at, trailing_zeros}
use Rattle.std.specs.Int.Bits.{xor_self}
use Rattle.optimistic.specs.forms.Bytes.{byte_of, HasNone, IsMarked}
use Rattle.optimistic.proofs.lemmas.forms.Trick.{trick, ones, NoZero, trick_below, trick_here}
use Rattle.optimistic.proofs.lemmas.forms.ByteLemmas.{byte_xor, xor_zero, spread}

one_more : (key : ℕ → ℕ) (b p : ℕ) → HasNone p key b → key p ≢ b → HasNone (suc p) key b
one_more key b p h n i l = elim (cases_lt i p) [
  | inl m ↦ h i m
  | inr m ↦ let e : i ≡ p = omega arith in λ f. n (ap key (sym e) ∙ f)
]

module _ {size n : ℕ} {key : ℕ → ℕ} {b t : ℕ} (marked : IsMarked size n key b t) where
  -- no mark: no place
  pub unmarked : t ≡ 0 → (p : ℕ) → p ≤ n → HasNone p key b
  unmarked e zero l = λ i m. absurd (omega arith)
  unmarked e (suc p) l =
      let before = unmarked e p (omega arith) in
      one_more key b p before (λ f.
      let one = marked.here p (omega arith) f before in
      let none : bit_at t (size * p + (size - 1)) ≡ 0 = ap (λ x. bit_at x (size * p + (size - 1))) e ∙ bit_at-zero (size * p + (size - 1)) in
      absurd (omega (arith, one, none)))

  module _ (at : ℕ) (set : bit_at t at ≡ 1) (clear : (k : ℕ) → k < at → bit_at t k ≡ 0) (q : ℕ) (within : q < n) (from : size * q ≤ at) (to : at < size * suc q) (none_between : (p : ℕ) → p < q → size * p + (size - 1) < size * q) where
    before_mark : (p : ℕ) → p ≤ q → HasNone p key b
    before_mark zero l = λ i m. absurd (omega arith)
    before_mark (suc p) l =
        let before = before_mark p (omega arith) in
        one_more key b p before (λ f.
        let one = marked.here p (omega arith) f before in
        let none = clear (size * p + (size - 1)) (omega (arith, none_between p (omega arith))) in
        absurd (omega (arith, one, none)))

    pub at_mark : (q < n) × (key q ≡ b) × HasNone q key b
    at_mark = (
      within,
      elim (cases_eq (key q) b) [
        | inl e ↦ e
        | inr d ↦
            let none = marked.below (suc q) (omega arith) (one_more key b q (before_mark q (omega arith)) d) at to in
            absurd (omega (arith, set, none))
      ],
      before_mark q (omega arith),
    )

-- a bit that is set lies within
set_within : (t k at : ℕ) → t < 2 ^ k → bit_at t at ≡ 1 → at < k
set_within t k at f e = elim (cases_lt at k) [
  | inl l ↦ l
  | inr g ↦ let none = bit_at_above t k at f g in absurd (omega (arith, none, e))
]

-- the place of the lowest mark of bytes
pub place_of_bytes : {n : ℕ} {key : ℕ → ℕ} {b t : ℕ} → IsMarked 8 n key b t → t ≢ 0 → t < 2 ^ 64 → (trailing_zeros w64 t / 8 < n) × (key (trailing_zeros w64 t / 8) ≡ b) × HasNone (trailing_zeros w64 t / 8) key b
place_of_bytes {n} {key} {b} {t} m ne fits =
    let z = bit_at-trailing_zeros w64 t (omega (arith, ne)) fits in
    let at = trailing_zeros w64 t in
    let in_bits : at < 8 * n = set_within t (8 * n) at m.fits z.1 in
    let within : at / 8 < n = omega arith in
    at_mark m at z.1 z.2 (at / 8) within (omega arith) (omega arith) (λ p l. omega arith)

-- the place of the lowest mark of places
pub place_of_bits : {n : ℕ} {key : ℕ → ℕ} {b t : ℕ} → IsMarked 1 n key b t → t ≢ 0 → t < 2 ^ 64 → (trailing_zeros w64 t < n) × (key (trailing_zeros w64 t) ≡ b) × HasNone (trailing_zeros w64 t) key b
place_of_bits {n} {key} {b} {t} m ne fits =
    let z = bit_at-trailing_zeros w64 t (omega (arith, ne)) fits in
    let at = trailing_zeros w64 t in
    let in_bits : at < 1 * n = set_within t (1 * n) at m.fits z.1 in
    let within : at < n = omega arith in
    at_mark m at z.1 z.2 at within (omega arith) (omega arith) (λ p l. omega arith)

-- the marks of the lowest four bytes
low_bit : (t k : ℕ) → k < 32 → bit_at (bit_and t 4294967295) k ≡ bit_at t k
low_bit t k l = omega (arith, bit_at_and t 4294967295 k, bit_at_ones 32 k l, bit_at-lt t k)

pub first_four : {key : ℕ → ℕ} {b t : ℕ} → IsMarked 8 8 key b t → IsMarked 8 4 key b (bit_and t 4294967295)
first_four {key} {b} {t} m = record {
  below = λ p l h k n. low_bit t k (omega arith) ∙ m.below p (omega arith) h k n;
  here = λ p l e h. low_bit t (8 * p + (8 - 1)) (omega arith) ∙ m.here p (omega arith) e h;
  fits = omega (arith, and_le_r t 4294967295);
}

-- the trick's word has the marks of the bytes that are equal
equal_at : (w b i : ℕ) → b < 256 → i < 8 → byte_of (bit_xor w (b * ones)) i ≡ 0 → byte_of w i ≡ b
equal_at w b i l m e = xor_zero (byte_of w i) b (ap (bit_xor (byte_of w i)) (sym (spread b i l m)) ∙ sym (byte_xor w (b * ones) i) ∙ e)

zero_at : (w b i : ℕ) → b < 256 → i < 8 → byte_of w i ≡ b → byte_of (bit_xor w (b * ones)) i ≡ 0
zero_at w b i l m e = byte_xor w (b * ones) i ∙ ap (bit_xor (byte_of w i)) (spread b i l m) ∙ ap (λ x. bit_xor x b) e ∙ xor_self b

no_zero : (w b p : ℕ) → b < 256 → p ≤ 8 → HasNone p (byte_of w) b → NoZero (bit_xor w (b * ones)) p
no_zero w b p l m h i n e = h i n (equal_at w b i l (omega arith) e)

pub trick_marks : (w b : ℕ) → w < 18446744073709551616 → b < 256 → IsMarked 8 8 (byte_of w) b (trick (bit_xor w (b * ones)))
trick_marks w b f l =
    let x = bit_xor w (b * ones) in
    let small : x < 18446744073709551616 = xor_lt 64 w (b * ones) f (omega arith) in
    record {
      below = λ p m h k n. trick_below x p small m (no_zero w b p l m h) k n;
      here = λ p m e h. trick_here x p small m (no_zero w b p l (omega arith) h) (zero_at w b p l m e);
      fits = omega (arith, and_le_r (bit_and ((x + (18446744073709551616 - ones)) % 18446744073709551616) (18446744073709551615 - x)) 9259542123273814144);
    }

-- the same marks of places that have the same bytes
pub same_marks : {n : ℕ} {key : ℕ → ℕ} {b t : ℕ} (key' : ℕ → ℕ) → ((i : ℕ) → i < n → key' i ≡ key i) → IsMarked 1 n key b t → IsMarked 1 n key' b t
same_marks {n} {key} {b} {t} key' same m = record {
  below = λ p l h k g. m.below p l (λ i f e. h i f (same i (omega arith) ∙ e)) k g;
  here = λ p l e h. m.here p l (sym (same p l) ∙ e) (λ i f g. h i f (same i (omega arith) ∙ g));
  fits = m.fits;
}

times_one : (a : ℕ) → 1 * a ≡ a
times_one a = omega arith

add_zero : (a : ℕ) → a ≡ a + 0
add_zero a = omega arith

-- marks of further eight places beside those of n
pub join : (n : ℕ) (key : ℕ → ℕ) (b w t u : ℕ) → n ≤ 56 → IsMarked 1 n key b t → IsMarked 1 8 (byte_of w) b u → ((i : ℕ) → i < 8 → key (n + i) ≡ byte_of w i) → IsMarked 1 (n + 8) key b (bit_or t (u * 2 ^ n % 2 ^ 64))
join n key b w t u le m h same =
    let small : u < 2 ^ 8 = h.fits in
    let whole : u * 2 ^ n % 2 ^ 64 ≡ u * 2 ^ n = shl_whole u 8 n 64 small (omega arith) in
    let up : u * 2 ^ n < 2 ^ (8 + n) = shl_below u 8 n small in
    let tn : t < 2 ^ n = subst (λ x. t < 2 ^ x) (times_one n) m.fits in
    let high : (k : ℕ) → n ≤ k → bit_at (u * 2 ^ n) k ≡ bit_at u (k - n) = λ (k : ℕ) (g : n ≤ k). ap (λ x. bit_at x k) (add_zero (u * 2 ^ n)) ∙ bit_at_cat_high u n 0 k (pow_pos n) g in
    let low : (k : ℕ) → k < n → bit_at (u * 2 ^ n) k ≡ 0 = λ (k : ℕ) (g : k < n). ap (λ x. bit_at x k) (add_zero (u * 2 ^ n)) ∙ bit_at_cat_low u n 0 k g ∙ bit_at-zero k in
    subst (λ x. IsMarked 1 (n + 8) key b (bit_or t x)) (sym whole) (record {
      below = λ p l none k g. elim (cases_lt k n) [
        | inl f ↦
            let a = m.below (suc k) (omega arith) (λ i o. none i (omega arith)) k (omega arith) in
            omega (arith, a, low k f, bit_at_or t (u * 2 ^ n) k)
        | inr f ↦
            let a = bit_at_above t n k tn f in
            let c = h.below (suc (k - n)) (omega arith) (λ i o e. none (n + i) (omega arith) (same i (omega arith) ∙ e)) (k - n) (omega arith) in
            omega (arith, a, c, high k f, bit_at_or t (u * 2 ^ n) k)
      ];
      here = λ p l e none. elim (cases_lt p n) [
        | inl f ↦
            let a = m.here p f e none in
            omega (arith, a, low (1 * p + (1 - 1)) (omega arith), bit_at_or t (u * 2 ^ n) (1 * p + (1 - 1)))
        | inr f ↦
            let q = p - n in
            let back : n + q ≡ p = omega arith in
            let c : bit_at u (1 * q + (1 - 1)) ≡ 1 = h.here q (omega arith) (sym (same q (omega arith)) ∙ ap key back ∙ e) (λ i o g. none (n + i) (omega arith) (same i (omega arith) ∙ g)) in
            let at : 1 * q + (1 - 1) ≡ (1 * p + (1 - 1)) - n = omega arith in
            let d : bit_at u ((1 * p + (1 - 1)) - n) ≡ 1 = ap (bit_at u) (sym at) ∙ c in
            omega (arith, d, high (1 * p + (1 - 1)) (omega arith), bit_at_or t (u * 2 ^ n) (1 * p + (1 - 1)), bit_at-lt t (1 * p + (1 - 1)))
      ];
      fits =
          let a : t < 2 ^ (8 + n) = omega (arith, tn, pow_mono {i = n} {j = 8 + n} (omega arith)) in
          let e : 8 + n ≡ 1 * (n + 8) = omega arith in
          subst (λ x. bit_or t (u * 2 ^ n) < 2 ^ x) e (or_lt (8 + n) t (u * 2 ^ n) a up);
    })
