-- The bytes of a node that a range of keys has.
use Rattle.std.proofs.Common.{◌≡◌, ℕ, zero, suc, ◌<◌, ◌≤◌, ◌+◌, ◌*◌, ◌-◌, ◌/◌, ◌^◌, ◌==◌, Bool, true, false, cond, List, inl, inr, refl, sym, ap, ◌∙◌, arith}
use Rattle.std.proofs.Math.Dec.{ltb}
use Rattle.std.proofs.lemmas.Nat.{pow-add}
use Rattle.std.proofs.lemmas.Bool.{cases_lt}
use Rattle.std.proofs.lemmas.Bool.Decides.{nat_tests}
use Rattle.std.proofs.Math.Nat.{mul-le-mul_right}
use Rattle.congee.specs.declared.protocol.store.Region.{Region}
use Rattle.congee.specs.protocol.Regions.{span, IsRegion, start_at}
use Rattle.congee.specs.protocol.ScanSteps.{width, is_outside, first_byte, last_byte}
use Rattle.congee.proofs.lemmas.protocol.Regions.{span_pos, span_step, multiple_bounds, between_one, multiple}

-- the least test, and its cases
pub low_yes : {A : Type 0} (m n : ℕ) (x y : A) → m < n → cond (ltb m n) x y ≡ x
low_yes m n x y l = let e : ltb m n ≡ true = grind (arith, nat_tests, l) in rw e refl

-- the other case: the number isn't less
pub low_no : {A : Type 0} (m n : ℕ) (x y : A) → n ≤ m → cond (ltb m n) x y ≡ y
low_no m n x y l = let e : ltb m n ≡ false = grind (arith, nat_tests, l) in rw e refl

-- what isn't zero is above it
pub is_some : (n : ℕ) → (n == 0) ≡ false → 0 < n
is_some zero e = let z : true ≡ false = e in absurd cc
is_some (suc n) e = omega arith

width_is : (d : ℕ) → width d ≡ span (d + 1)
width_is d = ap (λ n. 2 ^ (8 * n)) (omega arith)

-- the last of the keys below a node is a key
pub region_top : (p : List ℕ) (base depth : ℕ) → IsRegion p base depth → base + span depth ≤ 2 ^ 64
region_top p base depth r =
    let e : base / span depth * span depth ≡ base = multiple base (span depth) r.even in
    let f : 2 ^ (8 * depth + 8 * (8 - depth)) ≡ 2 ^ (8 * depth) * span depth = pow-add 2 (8 * depth) (8 * (8 - depth)) in
    let i : 64 ≡ 8 * depth + 8 * (8 - depth) = omega (arith, r.short) in
    let g : 2 ^ 64 ≡ 2 ^ (8 * depth + 8 * (8 - depth)) = ap (λ n. 2 ^ n) i in
    elim (cases_lt (base / span depth) (2 ^ (8 * depth))) [
      | inl lt ↦ (let m : suc (base / span depth) * span depth ≤ 2 ^ (8 * depth) * span depth = mul-le-mul_right {m = suc (base / span depth)} {n = 2 ^ (8 * depth)} (span depth) (omega (arith, lt)) in omega (arith, m, e, f, g))
      | inr ge ↦ (let m : 2 ^ (8 * depth) * span depth ≤ base / span depth * span depth = mul-le-mul_right (span depth) ge in absurd (let s = r.small in omega (arith, m, e, f, g, s)))
    ]

module _ (x : Region) where
  quotient : (n : ℕ) → n / width x.depth ≡ n / span (x.depth + 1)
  quotient n = ap (λ w. n / w) (width_is x.depth)

  -- whether all keys below the node come before the range, where some come before its end
  abbrev beyond : ℕ → Bool
  beyond start = cond (ltb x.base start) (ltb 255 ((start - x.base) / width x.depth)) false

  within : (start last : ℕ) → x.base ≤ last → is_outside start last x ≡ beyond start
  within start last ge = low_no last x.base true (beyond start) ge

  -- where the region begins within the range, so do the keys of its last byte
  pub last_within : (last : ℕ) → x.base ≤ last → start_at x.base x.depth (last_byte last x) ≤ last
  last_within last b =
      let q : (last - x.base) / width x.depth ≡ (last - x.base) / span (x.depth + 1) = quotient (last - x.base) in
      let p = multiple_bounds (last - x.base) (span (x.depth + 1)) (span_pos (x.depth + 1)) in
      elim (cases_lt 255 ((last - x.base) / width x.depth)) [
        | inl l ↦ (let e : last_byte last x ≡ 255 = low_yes 255 ((last - x.base) / width x.depth) 255 ((last - x.base) / width x.depth) l in
            let m : 255 * span (x.depth + 1) ≤ (last - x.base) / span (x.depth + 1) * span (x.depth + 1) = mul-le-mul_right {m = 255} {n = (last - x.base) / span (x.depth + 1)} (span (x.depth + 1)) (omega (arith, l, q)) in
            let z : last_byte last x * span (x.depth + 1) ≡ 255 * span (x.depth + 1) = ap (λ n. n * span (x.depth + 1)) e in
            omega (arith, z, m, p.0, b))
        | inr l ↦ (let e : last_byte last x ≡ (last - x.base) / width x.depth = low_no 255 ((last - x.base) / width x.depth) 255 ((last - x.base) / width x.depth) l in
            let z : last_byte last x * span (x.depth + 1) ≡ (last - x.base) / span (x.depth + 1) * span (x.depth + 1) = ap (λ n. n * span (x.depth + 1)) (e ∙ q) in
            omega (arith, z, p.0, b))
      ]

  -- no key of the range has a greater one
  pub last_covers : (last k byte : ℕ) → x.base ≤ k → k ≤ last → byte < 256 → start_at x.base x.depth byte ≤ k → byte ≤ last_byte last x
  last_covers last k byte lo hi small at =
      let q : (last - x.base) / width x.depth ≡ (last - x.base) / span (x.depth + 1) = quotient (last - x.base) in
      let p = multiple_bounds (last - x.base) (span (x.depth + 1)) (span_pos (x.depth + 1)) in
      let up : byte ≤ (last - x.base) / span (x.depth + 1) = between_one (span (x.depth + 1)) byte ((last - x.base) / span (x.depth + 1)) (omega (arith, at, hi, lo, p.1)) in
      elim (cases_lt 255 ((last - x.base) / width x.depth)) [
        | inl l ↦ (let e : last_byte last x ≡ 255 = low_yes 255 ((last - x.base) / width x.depth) 255 ((last - x.base) / width x.depth) l in omega (arith, e, small))
        | inr l ↦ (let e : last_byte last x ≡ (last - x.base) / width x.depth = low_no 255 ((last - x.base) / width x.depth) 255 ((last - x.base) / width x.depth) l in omega (arith, e, up, q))
      ]

  -- the keys of a node that is left aside aren't in the range
  pub outside : (start last k : ℕ) → x.depth ≤ 7 → is_outside start last x ≡ true → start ≤ k → k ≤ last → x.base ≤ k → k < x.base + span x.depth → ⊥
  outside start last k d e lo hi at under = elim (cases_lt last x.base) [
    | inl lt ↦ omega (arith, lt, hi, at)
    | inr ge ↦ elim (cases_lt x.base start) [
      | inr le ↦ (let f : is_outside start last x ≡ false = within start last ge ∙ low_no x.base start (ltb 255 ((start - x.base) / width x.depth)) false le in let z : true ≡ false = sym e ∙ f in cc)
      | inl less ↦ elim (cases_lt 255 ((start - x.base) / width x.depth)) [
        | inr le ↦ (let f : is_outside start last x ≡ ltb 255 ((start - x.base) / width x.depth) = within start last ge ∙ low_yes x.base start (ltb 255 ((start - x.base) / width x.depth)) false less in
            let g : ltb 255 ((start - x.base) / width x.depth) ≡ false = grind (arith, nat_tests, le) in let z : true ≡ false = sym e ∙ f ∙ g in cc)
        | inl far ↦ (
            let q : (start - x.base) / width x.depth ≡ (start - x.base) / span (x.depth + 1) = quotient (start - x.base) in
            let p = multiple_bounds (start - x.base) (span (x.depth + 1)) (span_pos (x.depth + 1)) in
            let s = span_step x.depth (omega (arith, d)) in
            let m : 256 * span (x.depth + 1) ≤ (start - x.base) / span (x.depth + 1) * span (x.depth + 1) = mul-le-mul_right {m = 256} {n = (start - x.base) / span (x.depth + 1)} (span (x.depth + 1)) (omega (arith, far, q)) in
            omega (arith, m, p.0, s, lo, under, less))
      ]
    ]
  ]

  -- a node that isn't left aside
  pub inside_last : (start last : ℕ) → is_outside start last x ≡ false → x.base ≤ last
  inside_last start last e = elim (cases_lt last x.base) [
    | inr ge ↦ ge
    | inl lt ↦ (let f : is_outside start last x ≡ true = low_yes last x.base true (beyond start) lt in absurd (let z : false ≡ true = sym e ∙ f in cc))
  ]

  -- the first byte is at most 255
  pub first_small : (start : ℕ) → first_byte start x ≤ 255
  first_small start = elim (cases_lt x.base start) [
    | inr ge ↦ (let e : first_byte start x ≡ 0 = low_no x.base start (cond (ltb 255 ((start - x.base) / width x.depth)) 255 ((start - x.base) / width x.depth)) 0 ge in omega (arith, e))
    | inl lt ↦ (let e : first_byte start x ≡ cond (ltb 255 ((start - x.base) / width x.depth)) 255 ((start - x.base) / width x.depth) = low_yes x.base start (cond (ltb 255 ((start - x.base) / width x.depth)) 255 ((start - x.base) / width x.depth)) 0 lt in
        elim (cases_lt 255 ((start - x.base) / width x.depth)) [
          | inl l ↦ (let f = e ∙ low_yes 255 ((start - x.base) / width x.depth) 255 ((start - x.base) / width x.depth) l in omega (arith, f))
          | inr l ↦ (let f = e ∙ low_no 255 ((start - x.base) / width x.depth) 255 ((start - x.base) / width x.depth) l in omega (arith, f, l))
        ])
  ]

  -- the keys of the node before its first byte come before the range, and those of that byte don't all
  pub first_before : (start last k : ℕ) → is_outside start last x ≡ false → start ≤ k → x.base ≤ k → k < start_at x.base x.depth (first_byte start x) → ⊥
  first_before start last k e lo at hi = elim (cases_lt x.base start) [
    | inr ge ↦ (let f : first_byte start x ≡ 0 = low_no x.base start (cond (ltb 255 ((start - x.base) / width x.depth)) 255 ((start - x.base) / width x.depth)) 0 ge in
        let z : first_byte start x * span (x.depth + 1) ≡ 0 * span (x.depth + 1) = ap (λ n. n * span (x.depth + 1)) f in omega (arith, z, hi, at))
    | inl lt ↦ (let z = near start last lt e in let q : (start - x.base) / width x.depth ≡ (start - x.base) / span (x.depth + 1) = quotient (start - x.base) in
        let p = multiple_bounds (start - x.base) (span (x.depth + 1)) (span_pos (x.depth + 1)) in
        let y : first_byte start x * span (x.depth + 1) ≡ (start - x.base) / span (x.depth + 1) * span (x.depth + 1) = ap (λ n. n * span (x.depth + 1)) (z ∙ q) in omega (arith, y, p.0, hi, lo, lt))
  ] where
    near : (start last : ℕ) → x.base < start → is_outside start last x ≡ false → first_byte start x ≡ (start - x.base) / width x.depth
    near start last lt e =
        let b : x.base ≤ last = inside_last start last e in
        low_yes x.base start (cond (ltb 255 ((start - x.base) / width x.depth)) 255 ((start - x.base) / width x.depth)) 0 lt ∙ elim (cases_lt 255 ((start - x.base) / width x.depth)) [
          | inr l ↦ low_no 255 ((start - x.base) / width x.depth) 255 ((start - x.base) / width x.depth) l
          | inl l ↦ absurd (let f : is_outside start last x ≡ ltb 255 ((start - x.base) / width x.depth) = within start last b ∙ low_yes x.base start (ltb 255 ((start - x.base) / width x.depth)) false lt in
              let g : ltb 255 ((start - x.base) / width x.depth) ≡ true = grind (arith, nat_tests, l) in let z : false ≡ true = sym e ∙ f ∙ g in cc)
        ]

  -- where the region has keys of the range, the range begins before the end of the first byte's keys
  pub first_aims : (start last : ℕ) → is_outside start last x ≡ false → start < start_at x.base x.depth (first_byte start x) + span (x.depth + 1)
  first_aims start last e = elim (cases_lt x.base start) [
    | inr ge ↦ (let p = span_pos (x.depth + 1) in omega (arith, ge, p))
    | inl lt ↦ (let b : x.base ≤ last = inside_last start last e in
        let q : (start - x.base) / width x.depth ≡ (start - x.base) / span (x.depth + 1) = quotient (start - x.base) in
        let p = multiple_bounds (start - x.base) (span (x.depth + 1)) (span_pos (x.depth + 1)) in
        let z : first_byte start x ≡ (start - x.base) / width x.depth = low_yes x.base start (cond (ltb 255 ((start - x.base) / width x.depth)) 255 ((start - x.base) / width x.depth)) 0 lt ∙ elim (cases_lt 255 ((start - x.base) / width x.depth)) [
          | inr l ↦ low_no 255 ((start - x.base) / width x.depth) 255 ((start - x.base) / width x.depth) l
          | inl l ↦ absurd (let f : is_outside start last x ≡ ltb 255 ((start - x.base) / width x.depth) = within start last b ∙ low_yes x.base start (ltb 255 ((start - x.base) / width x.depth)) false lt in
              let g : ltb 255 ((start - x.base) / width x.depth) ≡ true = grind (arith, nat_tests, l) in let y : false ≡ true = sym e ∙ f ∙ g in cc)
        ] in
        let y : first_byte start x * span (x.depth + 1) ≡ (start - x.base) / span (x.depth + 1) * span (x.depth + 1) = ap (λ n. n * span (x.depth + 1)) (z ∙ q) in
        omega (arith, y, p.1, lt))
  ]
