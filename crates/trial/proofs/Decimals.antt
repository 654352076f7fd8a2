-- What begins a decimal, and which digits are one.
use Rattle.std.proofs.Common.{◌≡◌, ◌≢◌, ℕ, ◌<◌, ◌≤◌, ◌^◌, List, [], ◌∷◌, length, get_or, refl, ap, sym, ◌∙◌, arith, decimal, suc, zero, false, inl, inr}
use Rattle.std.proofs.Math.Dec.{eqb}
use Rattle.std.specs.Int.{IsInRange}
use Rattle.std.specs.Str.{IsUtf8}
use Rattle.std.proofs.lemmas.Str.{IsUtf8-from_ascii}
use Rattle.std.proofs.lemmas.Bool.Decides.{eqb_tells}
use Rattle.std.specs.Str.Parse.{AllDigits, IsNumeral, digits_value, without_leading_plus}
use Rattle.std.proofs.lemmas.Fmt.{decimal_is_IsNumeral, decimal_digit, first_decimal, decimal-digits_value, decimal_nonempty, IsAscii-decimal}
use Rattle.std.proofs.lemmas.Str.Parse.{IsNumeralModel, digit_at}

-- the digits' own model
pub own : IsNumeralModel (AllDigits 10) (digits_value 10)
own = record { to = λ ds h. h; from = λ ds h. h; same = λ ds h. refl }

-- the first byte of a decimal is a digit
pub first_is_digit : (n : ℕ) → n < 2 ^ 64 → IsInRange 48 57 (get_or (decimal n) 0 0)
first_is_digit n h = digit_at (decimal n) 0 (decimal_is_IsNumeral n h).0.1 (decimal_nonempty n h)

-- no zero leads a decimal of two bytes or more
no_leading_zero : (n : ℕ) → n < 2 ^ 64 → get_or (decimal n) 0 0 ≡ 48 → length (decimal n) ≡ 1
no_leading_zero zero h e = ap length (decimal_digit 0 (omega arith))
no_leading_zero (suc n) h e = absurd (omega (arith, first_decimal (suc n) (omega arith) h))

-- a digit leads, and no zero that isn't alone
pub record IsPlain (bs : List ℕ) : Type 0 where
  pub digit : IsInRange 48 57 (get_or bs 0 0)
  pub alone : get_or bs 0 0 ≡ 48 → length bs ≤ 1

-- the decimal of a number below 2 ^ 64 is plain, and isn't empty
pub plain_decimal : (bs : List ℕ) (n : ℕ) → n < 2 ^ 64 → bs ≡ decimal n → (0 < length bs) × IsPlain bs
plain_decimal bs n h e = rw e (decimal_nonempty n h, record { digit = first_is_digit n h; alone = λ z. omega (arith, no_leading_zero n h z) })

not_43 : (b : ℕ) → b ≢ 43 → eqb b 43 ≡ false
not_43 b h = elim (eqb_tells b 43) [ inl p ↦ absurd (h p.1) | inr p ↦ p.0 ]

without_nothing : (bs : List ℕ) → eqb (get_or bs 0 0) 43 ≡ false → without_leading_plus bs ≡ bs
without_nothing bs e = rw e refl

-- the bytes are digits of this number, after a plus or leading zeros or neither
abbrev pub IsUnsigned : List ℕ → ℕ → Type 0
IsUnsigned bs n = IsNumeral 10 (without_leading_plus bs) × (digits_value 10 (without_leading_plus bs) ≡ n) × (n < 2 ^ 64)

-- plain bytes that are read as a number are its decimal
pub from_plain : (bs : List ℕ) (n : ℕ) → IsPlain bs → IsUnsigned bs n → bs ≡ decimal n
from_plain [] n p u = absurd (omega (arith, u.0.0))
from_plain (b ∷ bs) n p u =
    let bare : without_leading_plus (b ∷ bs) ≡ b ∷ bs = without_nothing (b ∷ bs) (not_43 b (λ e. omega (arith, p.digit, e))) in
    let numeral : IsNumeral 10 (b ∷ bs) = rw bare at u.0 in
    let value : digits_value 10 (b ∷ bs) ≡ n = rw bare at u.1 in
    sym (decimal-digits_value own (b ∷ bs) numeral.1 numeral.0 (λ e. omega (arith, p.alone e)) (rw value u.2)) ∙ ap decimal value

-- a decimal is text
pub decimal_is_text : (n : ℕ) (bs : List ℕ) → n < 2 ^ 64 → bs ≡ decimal n → IsUtf8 bs
decimal_is_text n bs h e = rw e (IsUtf8-from_ascii (decimal n) (IsAscii-decimal n h))
