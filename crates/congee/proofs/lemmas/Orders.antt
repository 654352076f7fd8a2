-- Numbers in the order of their bytes, the highest first.
use Rattle.std.proofs.Common.{◌≡◌, ℕ, zero, suc, ◌<◌, ◌≤◌, ◌+◌, ◌*◌, ◌-◌, ◌/◌, ◌%◌, ◌^◌, get_or, inl, inr, refl, sym, ap, ◌∙◌, subst, arith}
use Rattle.std.specs.Int.{byte_at, bytes_high_first}
use Rattle.std.proofs.lemmas.Nat.{shr-shr, pow-add}
use Rattle.std.proofs.Math.Nat.{div-one, div-add-mod, pow-suc}
use Rattle.std.proofs.Math.Pow.{shr_mono}
use Rattle.std.proofs.lemmas.Bool.{cases_lt}
use Rattle.congee.specs.Keys.{key_bytes}

raised : (m : ℕ) → 256 ^ m ≡ 2 ^ (8 * m)
raised zero = refl
raised (suc m) = pow-suc 256 m ∙ ap (λ x. x * 256) (raised m) ∙ sym (pow-add 2 (8 * m) 8) ∙ ap (λ e. 2 ^ e) (omega arith)

byte_is : (k n : ℕ) → byte_at k n ≡ n / 2 ^ (8 * k) % 256
byte_is zero n = ap (λ x. x % 256) (sym (div-one n))
byte_is (suc i) n = ap (λ x. n / x % 256) (raised (suc i))

nth_byte : (m n j : ℕ) → j < m → get_or (bytes_high_first m n) j 0 ≡ byte_at (m - 1 - j) n
nth_byte zero n j l = absurd (omega (arith, l))
nth_byte (suc m) n zero l = ap (λ x. byte_at x n) (omega arith)
nth_byte (suc m) n (suc j) l = nth_byte m n j (omega (arith, l)) ∙ ap (λ x. byte_at x n) (omega (arith, l))

-- the byte at a depth
digit : (q j : ℕ) → j < 8 → get_or (key_bytes q) j 0 ≡ q / 2 ^ (8 * (7 - j)) % 256
digit q j l = nth_byte 8 q j l ∙ byte_is (7 - j) q

-- the bytes of a key are below 256
pub byte_small : (q j : ℕ) → j < 8 → get_or (key_bytes q) j 0 < 256
byte_small q j l = omega (arith, digit q j l)

-- the number of the first j bytes
abbrev pub first_bytes : ℕ → ℕ → ℕ
first_bytes q j = q / 2 ^ (8 * (8 - j))

-- the number of the first bytes and one more, by that of the first bytes
pub top_step : (q j : ℕ) → j < 8 → first_bytes q (j + 1) ≡ 256 * first_bytes q j + get_or (key_bytes q) j 0
top_step q j l =
    let e : first_bytes q (j + 1) ≡ q / 2 ^ (8 * (7 - j)) = ap (λ i. q / 2 ^ i) (omega (arith, l)) in
    let up : first_bytes q j ≡ q / 2 ^ (8 * (7 - j)) / 256 = ap (λ i. q / 2 ^ i) (let i : 8 * (8 - j) ≡ 8 * (7 - j) + 8 = omega (arith, l) in i) ∙ sym (shr-shr q (8 * (7 - j)) 8) in
    let d = div-add-mod (q / 2 ^ (8 * (7 - j))) 256 in
    omega (arith, e, up, d, digit q j l)

top_none : (q : ℕ) → q < 2 ^ 64 → first_bytes q 0 ≡ 0
top_none q l = omega (arith, l)

-- numbers with the same first bytes have the same number of these
pub same_top : (a b d : ℕ) → a < 2 ^ 64 → b < 2 ^ 64 → d ≤ 8 → ((j : ℕ) → j < d → get_or (key_bytes a) j 0 ≡ get_or (key_bytes b) j 0) → first_bytes a d ≡ first_bytes b d
same_top a b zero la lb l h = top_none a la ∙ sym (top_none b lb)
same_top a b (suc d) la lb l h =
    let rest = same_top a b d la lb (omega (arith, l)) (λ j k. h j (omega (arith, k))) in
    let x = top_step a d (omega (arith, l)) in
    let y = top_step b d (omega (arith, l)) in
    let z = h d (omega arith) in
    let s : d + 1 ≡ suc d = omega arith in
    subst (λ n. first_bytes a n ≡ first_bytes b n) s (omega (arith, rest, x, y, z))

-- the other way round
pub same_bytes : (a b d : ℕ) → d ≤ 8 → first_bytes a d ≡ first_bytes b d → (j : ℕ) → j < d → get_or (key_bytes a) j 0 ≡ get_or (key_bytes b) j 0
same_bytes a b zero l h j k = absurd (omega (arith, k))
same_bytes a b (suc d) l h j k =
    let s : d + 1 ≡ suc d = omega arith in
    let h' : first_bytes a (d + 1) ≡ first_bytes b (d + 1) = subst (λ n. first_bytes a n ≡ first_bytes b n) (sym s) h in
    let x = top_step a d (omega (arith, l)) in
    let y = top_step b d (omega (arith, l)) in
    let ex = digit a d (omega (arith, l)) in
    let ey = digit b d (omega (arith, l)) in
    let above : first_bytes a d ≡ first_bytes b d = omega (arith, h', x, y, ex, ey) in
    let here : get_or (key_bytes a) d 0 ≡ get_or (key_bytes b) d 0 = omega (arith, h', x, y, above) in
    elim (cases_lt j d) [
      | inl lt ↦ same_bytes a b d (omega (arith, l)) above j lt
      | inr ge ↦ (let e : d ≡ j = omega (arith, ge, k) in subst (λ n. get_or (key_bytes a) n 0 ≡ get_or (key_bytes b) n 0) e here)
    ]

-- the first byte in which two numbers differ tells which is less
pub less_at_first_byte : (a b d : ℕ) → a < 2 ^ 64 → b < 2 ^ 64 → d < 8 → ((j : ℕ) → j < d → get_or (key_bytes a) j 0 ≡ get_or (key_bytes b) j 0)
    → get_or (key_bytes a) d 0 < get_or (key_bytes b) d 0 → a < b
less_at_first_byte a b d la lb l h k = elim (cases_lt a b) [
  | inl lt ↦ lt
  | inr ge ↦ (
      let up : first_bytes b (d + 1) ≤ first_bytes a (d + 1) = shr_mono (8 * (8 - (d + 1))) ge in
      let rest = same_top a b d la lb (omega (arith, l)) h in
      let x = top_step a d l in
      let y = top_step b d l in
      absurd (omega (arith, rest, x, y, k, up))
      )
]
