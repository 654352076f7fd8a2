-- A prefix and its length in one word of eight bytes.
use Rattle.std.proofs.Common.{◌≡◌, ℕ, zero, suc, ◌<◌, ◌≤◌, ◌+◌, ◌*◌, ◌-◌, ◌/◌, ◌^◌, nat_eq, true, false, List, [], ◌∷◌, length, take, set, get_or, inl, inr, sym, ap, ◌∙◌, arith}
use Rattle.std.specs.Int.{w64, from_be_bytes}
use Rattle.std.specs.Int.Bits.{bit_xor, xor_assoc, xor_self, xor_zero_l, xor_zero_r}
use Rattle.std.specs.Prelude.{slice_index}
use Rattle.std.proofs.lemmas.Bool.{cases_eq}
use Rattle.std.proofs.lemmas.Bool.Decides.{nat_tests}
use Rattle.std.proofs.lemmas.List.{length-set, take-set-le, get_or-set_same, get_or-take, length-take-le, take_all}
use Rattle.std.proofs.lemmas.Nat.{shr-shr, be_bytes_8, xor_shr}
use Rattle.congee.specs.Heap.{fits}
use Rattle.congee.specs.Keys.{key_bytes}
use Rattle.congee.proofs.lemmas.Fits.{fits_byte}
use Rattle.congee.proofs.lemmas.Graft.{on_test}
use Rattle.congee.proofs.lemmas.Orders.{first_bytes, same_top, same_bytes}
use Rattle.congee.proofs.lemmas.forms.Prefixes.{fits_every}

-- a word whose first bytes are a prefix, with their number in its last place
pub worded : (word bytes : List ℕ) (n : ℕ) → length word ≡ 8 → n ≡ length bytes → n ≤ 7 → take n word ≡ take n bytes
    → (length (set word 7 n) ≡ 8) × ((slice_index (set word 7 n) 7 ≡ n) × (take n (set word 7 n) ≡ bytes))
worded word bytes n size count few same = (
  length-set word 7 n ∙ size,
  (get_or-set_same word 7 n 0 (omega (arith, size)), take-set-le n word 7 n few ∙ same ∙ take_all n bytes (omega (arith, count))),
)

-- a byte that is stored in bytes leaves bytes
pub low_set : (word : List ℕ) (i y : ℕ) → ((j : ℕ) → get_or word j 0 < 256) → y < 256 → (j : ℕ) → get_or (set word i y) j 0 < 256
low_set [] i y low l j = low j
low_set (x ∷ word) zero y low l zero = l
low_set (x ∷ word) zero y low l (suc j) = low (suc j)
low_set (x ∷ word) (suc i) y low l zero = low zero
low_set (x ∷ word) (suc i) y low l (suc j) = low_set word i y (λ j. low (suc j)) l j

-- the bytes of a number that is read off them
pub read_off : (bytes : List ℕ) (n : ℕ) → length bytes ≡ 8 → ((i : ℕ) → get_or bytes i 0 < 256) → n ≡ from_be_bytes w64 bytes → key_bytes n ≡ bytes
read_off bytes n size low e = be_bytes_8 bytes n size low e

-- two numbers that differ in no bit are one
none_apart : (a b : ℕ) → bit_xor a b ≡ 0 → a ≡ b
none_apart a b e =
    sym (xor_zero_r a) ∙ (ap (bit_xor a) (sym (xor_self b)) ∙ (sym (xor_assoc a b b) ∙ (ap (λ z. bit_xor z b) e ∙ xor_zero_l b)))

-- whether they differ in a bit tells whether they are one
none_test : (a b : ℕ) → nat_eq (bit_xor a b) 0 ≡ nat_eq a b
none_test a b = elim (cases_eq a b) [
  | inl e ↦ (
      let z : bit_xor a b ≡ 0 = ap (bit_xor a) (sym e) ∙ xor_self a in
      let one : nat_eq (bit_xor a b) 0 ≡ true = grind (arith, nat_tests) in
      let same : nat_eq a b ≡ true = grind (arith, nat_tests) in
      one ∙ sym same
      )
  | inr ne ↦ (
      let no : bit_xor a b ≡ 0 → ⊥ = λ z. ne (none_apart a b z) in
      let none : nat_eq (bit_xor a b) 0 ≡ false = elim (cases_eq (bit_xor a b) 0) [ inl z ↦ absurd (no z) | inr nz ↦ grind (arith, nat_tests) ] in
      let apart : nat_eq a b ≡ false = grind (arith, nat_tests) in
      none ∙ sym apart
      )
]

-- so it does without their last bytes
pub apart_test : (k w m : ℕ) → nat_eq (bit_xor k w / 256 / 2 ^ m) 0 ≡ nat_eq (k / 256 / 2 ^ m) (w / 256 / 2 ^ m)
apart_test k w m =
    let e : bit_xor k w / 256 / 2 ^ m ≡ bit_xor (k / 256 / 2 ^ m) (w / 256 / 2 ^ m) = ap (λ z. z / 2 ^ m) (xor_shr k w 8) ∙ xor_shr (k / 256) (w / 256) m in
    ap (λ z. nat_eq z 0) e ∙ none_test (k / 256 / 2 ^ m) (w / 256 / 2 ^ m)

-- what the numbers tell without their last bytes
pub packed_fits : (key word : List ℕ) (k w n : ℕ) → length key ≡ 8 → length word ≡ 8 → k < 2 ^ 64 → w < 2 ^ 64 → key_bytes k ≡ key → key_bytes w ≡ word → n ≤ 7
    → nat_eq (k / 256 / 2 ^ (8 * (7 - n))) (w / 256 / 2 ^ (8 * (7 - n))) ≡ fits (take n word) key
packed_fits key word k w n size sized lk lw ek ew few =
    let up : (q : ℕ) → q / 256 / 2 ^ (8 * (7 - n)) ≡ first_bytes q n = λ q. shr-shr q 8 (8 * (7 - n)) ∙ ap (λ i. q / 2 ^ i) (let i : 8 + 8 * (7 - n) ≡ 8 * (8 - n) = omega (arith, few) in i) in
    let long : length (take n word) ≡ n = length-take-le n word (omega (arith, few, sized)) in
    elim (cases_eq (k / 256 / 2 ^ (8 * (7 - n))) (w / 256 / 2 ^ (8 * (7 - n)))) [
      | inl e ↦ (
          let t : first_bytes k n ≡ first_bytes w n = sym (up k) ∙ e ∙ up w in
          let f : fits (take n word) key ≡ true = fits_every (take n word) key (omega (arith, long, size, few)) (λ j l.
          let lt : j < n = omega (arith, l, long) in
          ap (λ y. get_or y j 0) (sym ek) ∙ same_bytes k w n (omega (arith, few)) t j lt ∙ ap (λ y. get_or y j 0) ew ∙ sym (get_or-take n word j 0 lt)) in
          let one : nat_eq (k / 256 / 2 ^ (8 * (7 - n))) (w / 256 / 2 ^ (8 * (7 - n))) ≡ true = grind (arith, nat_tests) in
          one ∙ sym f
          )
      | inr ne ↦ (
          let f : fits (take n word) key ≡ false = on_test (fits (take n word) key) (λ t. absurd (ne (
          let e : first_bytes k n ≡ first_bytes w n = same_top k w n lk lw (omega (arith, few)) (λ j lt.
          ap (λ y. get_or y j 0) ek ∙ fits_byte (take n word) key j t (omega (arith, lt, long)) ∙ get_or-take n word j 0 lt ∙ ap (λ y. get_or y j 0) (sym ew)) in
          up k ∙ e ∙ sym (up w)))) (λ f. f) in
          let none : nat_eq (k / 256 / 2 ^ (8 * (7 - n))) (w / 256 / 2 ^ (8 * (7 - n))) ≡ false = grind (arith, nat_tests) in
          none ∙ sym f
          )
    ]
