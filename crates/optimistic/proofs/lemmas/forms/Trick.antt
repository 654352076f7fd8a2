-- The word trick: in (x - 0x01..01) & !x & 0x80..80 the lowest bit that is set is bit 7 of the lowest byte of x that is 0.
use Rattle.std.proofs.Common.{◌≡◌, ◌≢◌, ℕ, zero, suc, ◌+◌, ◌-◌, ◌*◌, ◌/◌, ◌%◌, ◌^◌, ◌<◌, ◌≤◌, arith, ap, ◌∙◌, inl, inr, shr-shr, bit_and, min, w64}
use Rattle.std.proofs.lemmas.Nat.Bits.{bit_at_and, bit_at_not}
use Rattle.std.proofs.lemmas.Bool.{cases_lt}
use Rattle.std.specs.Int.{bit_at}
use Rattle.optimistic.specs.forms.Bytes.{byte_of}

-- 0x0101010101010101 and 0x8080808080808080
abbrev pub ones : ℕ
ones = 72340172838076673

abbrev pub tops : ℕ
tops = 9259542123273814144

abbrev pub less : ℕ → ℕ
less x = (x + (18446744073709551616 - ones)) % 18446744073709551616

abbrev pub trick : ℕ → ℕ
trick x = bit_and (bit_and (less x) (18446744073709551615 - x)) tops

-- with no borrow from below, byte j is one less, and where it isn't 0 there is no borrow above
byte_less : (x j : ℕ) → x < 18446744073709551616 → j < 8 → ones % 2 ^ (8 * j) ≤ x % 2 ^ (8 * j) → byte_of (less x) j ≡ (byte_of x j + 255) % 256
byte_less x zero f l h = omega arith
byte_less x (suc zero) f l h = omega arith
byte_less x (suc (suc zero)) f l h = omega arith
byte_less x (suc (suc (suc zero))) f l h = omega arith
byte_less x (suc (suc (suc (suc zero)))) f l h = omega arith
byte_less x (suc (suc (suc (suc (suc zero))))) f l h = omega arith
byte_less x (suc (suc (suc (suc (suc (suc zero)))))) f l h = omega arith
byte_less x (suc (suc (suc (suc (suc (suc (suc zero))))))) f l h = omega arith
byte_less x (suc (suc (suc (suc (suc (suc (suc (suc j)))))))) f l h = absurd (omega arith)

no_borrow : (x j : ℕ) → j < 8 → ones % 2 ^ (8 * j) ≤ x % 2 ^ (8 * j) → byte_of x j ≢ 0 → ones % 2 ^ (8 * suc j) ≤ x % 2 ^ (8 * suc j)
no_borrow x zero l h n = omega (arith, n)
no_borrow x (suc zero) l h n = omega (arith, n)
no_borrow x (suc (suc zero)) l h n = omega (arith, n)
no_borrow x (suc (suc (suc zero))) l h n = omega (arith, n)
no_borrow x (suc (suc (suc (suc zero)))) l h n = omega (arith, n)
no_borrow x (suc (suc (suc (suc (suc zero))))) l h n = omega (arith, n)
no_borrow x (suc (suc (suc (suc (suc (suc zero)))))) l h n = omega (arith, n)
no_borrow x (suc (suc (suc (suc (suc (suc (suc zero))))))) l h n = omega (arith, n)
no_borrow x (suc (suc (suc (suc (suc (suc (suc (suc j)))))))) l h n = absurd (omega arith)

-- none of the bytes below p is 0
abbrev pub NoZero : ℕ → ℕ → Type 0
NoZero x p = (i : ℕ) → i < p → byte_of x i ≢ 0

borrow_free : (x p : ℕ) → p ≤ 8 → NoZero x p → ones % 2 ^ (8 * p) ≤ x % 2 ^ (8 * p)
borrow_free x zero l h = omega arith
borrow_free x (suc p) l h = no_borrow x p (omega arith) (borrow_free x p (omega arith) (λ i m. h i (omega arith))) (h p (omega arith))

-- bit 7 of byte j
pub top_bit : (n j : ℕ) → bit_at n (8 * j + 7) ≡ byte_of n j / 128
top_bit n j = let e = shr-shr n (8 * j) 7 in omega arith

-- the bits of byte j
pub bit_in_byte : (n j r : ℕ) → r < 8 → bit_at n (8 * j + r) ≡ byte_of n j / 2 ^ r % 2
bit_in_byte n j zero l = let e = shr-shr n (8 * j) 0 in omega arith
bit_in_byte n j (suc zero) l = let e = shr-shr n (8 * j) 1 in omega arith
bit_in_byte n j (suc (suc zero)) l = let e = shr-shr n (8 * j) 2 in omega arith
bit_in_byte n j (suc (suc (suc zero))) l = let e = shr-shr n (8 * j) 3 in omega arith
bit_in_byte n j (suc (suc (suc (suc zero)))) l = let e = shr-shr n (8 * j) 4 in omega arith
bit_in_byte n j (suc (suc (suc (suc (suc zero))))) l = let e = shr-shr n (8 * j) 5 in omega arith
bit_in_byte n j (suc (suc (suc (suc (suc (suc zero)))))) l = let e = shr-shr n (8 * j) 6 in omega arith
bit_in_byte n j (suc (suc (suc (suc (suc (suc (suc zero))))))) l = let e = shr-shr n (8 * j) 7 in omega arith
bit_in_byte n j (suc (suc (suc (suc (suc (suc (suc (suc r)))))))) l = absurd (omega arith)

-- the mask has bit 7 of each byte, and no other
tops_byte : (j : ℕ) → j < 8 → byte_of tops j ≡ 128
tops_byte zero l = omega arith
tops_byte (suc zero) l = omega arith
tops_byte (suc (suc zero)) l = omega arith
tops_byte (suc (suc (suc zero))) l = omega arith
tops_byte (suc (suc (suc (suc zero)))) l = omega arith
tops_byte (suc (suc (suc (suc (suc zero))))) l = omega arith
tops_byte (suc (suc (suc (suc (suc (suc zero)))))) l = omega arith
tops_byte (suc (suc (suc (suc (suc (suc (suc zero))))))) l = omega arith
tops_byte (suc (suc (suc (suc (suc (suc (suc (suc j)))))))) l = absurd (omega arith)

low_of_tops : (r : ℕ) → r < 7 → 128 / 2 ^ r % 2 ≡ 0
low_of_tops zero l = omega arith
low_of_tops (suc zero) l = omega arith
low_of_tops (suc (suc zero)) l = omega arith
low_of_tops (suc (suc (suc zero))) l = omega arith
low_of_tops (suc (suc (suc (suc zero)))) l = omega arith
low_of_tops (suc (suc (suc (suc (suc zero))))) l = omega arith
low_of_tops (suc (suc (suc (suc (suc (suc zero)))))) l = omega arith
low_of_tops (suc (suc (suc (suc (suc (suc (suc r))))))) l = absurd (omega arith)

tops_other : (j r : ℕ) → j < 8 → r < 7 → bit_at tops (8 * j + r) ≡ 0
tops_other j r l m = bit_in_byte tops j r (omega arith) ∙ ap (λ n. n / 2 ^ r % 2) (tops_byte j l) ∙ low_of_tops r m

tops_top : (j : ℕ) → j < 8 → bit_at tops (8 * j + 7) ≡ 1
tops_top j l = let e = top_bit tops j in let b = tops_byte j l in omega arith

-- the trick's bits
pub trick_other : (x j r : ℕ) → j < 8 → r < 7 → bit_at (trick x) (8 * j + r) ≡ 0
trick_other x j r l m = omega (arith, bit_at_and (bit_and (less x) (18446744073709551615 - x)) tops (8 * j + r), tops_other j r l m)

trick_top : (x j : ℕ) → x < 18446744073709551616 → j < 8 → bit_at (trick x) (8 * j + 7) ≡ min (byte_of (less x) j / 128) (1 - byte_of x j / 128)
trick_top x j f l =
    let a = bit_at_and (bit_and (less x) (18446744073709551615 - x)) tops (8 * j + 7) in
    let b = bit_at_and (less x) (18446744073709551615 - x) (8 * j + 7) in
    let c : bit_at (18446744073709551615 - x) (8 * j + 7) ≡ 1 - bit_at x (8 * j + 7) = bit_at_not w64 x (8 * j + 7) f (omega arith) in
    let t = tops_top j l in
    let d = top_bit (less x) j in
    let e = top_bit x j in
    omega (arith, a, b, c, t, d, e)

-- below the first byte that is 0 no bit is set
pub trick_below : (x p : ℕ) → x < 18446744073709551616 → p ≤ 8 → NoZero x p → (k : ℕ) → k < 8 * p → bit_at (trick x) k ≡ 0
trick_below x p f l h k m =
    let j = k / 8 in
    let r = k % 8 in
    let e : k ≡ 8 * j + r = omega arith in
    ap (bit_at (trick x)) e ∙ elim (cases_lt r 7) [
      | inl low ↦ trick_other x j r (omega arith) low
      | inr high ↦
          let seven : r ≡ 7 = omega arith in
          let j_in : j < p = omega arith in
          let b = byte_less x j f (omega arith) (borrow_free x j (omega arith) (λ i n. h i (omega arith))) in
          let n = h j j_in in
          let t = trick_top x j f (omega arith) in
          ap (λ s. bit_at (trick x) (8 * j + s)) seven ∙ omega (arith, t, b, n)
    ]

-- of the first byte that is 0 bit 7 is set
pub trick_here : (x p : ℕ) → x < 18446744073709551616 → p < 8 → NoZero x p → byte_of x p ≡ 0 → bit_at (trick x) (8 * p + 7) ≡ 1
trick_here x p f l h z = omega (arith, trick_top x p f l, byte_less x p f l (borrow_free x p (omega arith) h), z)
