-- The keys below a node are those of a range, and those under one of its bytes those of a part of it.
use Rattle.std.proofs.Common.{◌≡◌, ℕ, zero, suc, ◌<◌, ◌≤◌, ◌+◌, ◌*◌, ◌-◌, ◌/◌, ◌%◌, ◌^◌, true, List, length, get_or, inl, inr, sym, ap, ◌∙◌, subst, arith}
use Rattle.std.proofs.lemmas.Nat.{pow-add}
use Rattle.std.proofs.lemmas.Bool.{cases_lt}
use Rattle.std.proofs.Math.Nat.{div-add-mod, mod-lt, mul-le-mul_right}
use Rattle.congee.specs.Heap.{fits}
use Rattle.congee.specs.Keys.{key_bytes}
use Rattle.congee.specs.protocol.Regions.{span, IsRegion, start_at}
use Rattle.congee.proofs.lemmas.Fits.{fits_byte}
use Rattle.congee.proofs.lemmas.Orders.{first_bytes, top_step, same_top, same_bytes}
use Rattle.congee.proofs.lemmas.forms.Prefixes.{fits_every}

pow_pos : (n : ℕ) → 0 < 2 ^ n
pow_pos zero = omega arith
pow_pos (suc n) = let h = pow_pos n in let e : 2 ^ (n + 1) ≡ 2 ^ n * 2 ^ 1 = pow-add 2 n 1 in omega (arith, h, e)

-- there is a key with any first bytes
pub span_pos : (d : ℕ) → 0 < span d
span_pos d = pow_pos (8 * (8 - d))

-- 256 times as many keys have the same first bytes as have one byte more the same
pub span_step : (d : ℕ) → d < 8 → span d ≡ 256 * span (d + 1)
span_step d l =
    let e : 2 ^ (8 * (8 - d)) ≡ 2 ^ (8 * (8 - (d + 1)) + 8) = ap (λ n. 2 ^ n) (omega (arith, l)) in
    let f : 2 ^ (8 * (8 - (d + 1)) + 8) ≡ 2 ^ (8 * (8 - (d + 1))) * 2 ^ 8 = pow-add 2 (8 * (8 - (d + 1))) 8 in
    omega (arith, e, f)

-- a number between the multiples of another one
pub multiple_bounds : (k s : ℕ) → 0 < s → (k / s * s ≤ k) × (k < k / s * s + s)
multiple_bounds k s p =
    let e : s * (k / s) + k % s ≡ k = div-add-mod k s in
    let m : k % s < s = mod-lt k p in
    (omega (arith, e), omega (arith, e, m))

-- multiples in order
pub between_one : (s a b : ℕ) → a * s < b * s + s → a ≤ b
between_one s a b l = elim (cases_lt b a) [
  | inl lt ↦ (let m : suc b * s ≤ a * s = mul-le-mul_right {m = suc b} {n = a} s (omega (arith, lt)) in absurd (omega (arith, l, m)))
  | inr le ↦ le
]

-- a number that another one divides is that one times the quotient
pub multiple : (k s : ℕ) → k % s ≡ 0 → k / s * s ≡ k
multiple k s e = let f : s * (k / s) + k % s ≡ k = div-add-mod k s in omega (arith, e, f)

module _ (p : List ℕ) (base depth : ℕ) (r : IsRegion p base depth) where
  top_base : first_bytes base depth * span depth ≡ base
  top_base = multiple base (span depth) r.even

  same_prefix : (k : ℕ) → k < 2 ^ 64 → fits p (key_bytes k) ≡ true → first_bytes k depth ≡ first_bytes base depth
  same_prefix k l f = same_top k base depth l r.small (omega (arith, r.short)) (λ j lt.
      let lp : j < length p = omega (arith, lt, r.depth_is) in
      fits_byte p (key_bytes k) j f lp ∙ sym (fits_byte p (key_bytes base) j r.fitted lp))

  -- the keys that begin with the prefix
  pub keys_within : (k : ℕ) → k < 2 ^ 64 → fits p (key_bytes k) ≡ true → (base ≤ k) × (k < base + span depth)
  keys_within k l f =
      let e = same_prefix k l f in
      let b = top_base in
      let q = multiple_bounds k (span depth) (span_pos depth) in
      let z : first_bytes k depth * span depth ≡ base = ap (λ n. n * span depth) e ∙ b in
      (omega (arith, z, q.0), omega (arith, z, q.1))

  -- a key of the region begins with the prefix
  pub within_keys : (k : ℕ) → k < 2 ^ 64 → base ≤ k → k < base + span depth → fits p (key_bytes k) ≡ true
  within_keys k l lo hi =
      let b = top_base in
      let q = multiple_bounds k (span depth) (span_pos depth) in
      let up : first_bytes k depth ≤ first_bytes base depth = between_one (span depth) (first_bytes k depth) (first_bytes base depth) (omega (arith, q.0, hi, b)) in
      let down : first_bytes base depth ≤ first_bytes k depth = between_one (span depth) (first_bytes base depth) (first_bytes k depth) (omega (arith, q.1, lo, b)) in
      let e : first_bytes k depth ≡ first_bytes base depth = omega (arith, up, down) in
      fits_every p (key_bytes k) (omega (arith, r.depth_is, r.short)) (λ j lt.
      same_bytes k base depth (omega (arith, r.short)) e j (omega (arith, lt, r.depth_is)) ∙ fits_byte p (key_bytes base) j r.fitted lt)

  -- and one of the bytes after it
  pub byte_within : (k : ℕ) → k < 2 ^ 64 → fits p (key_bytes k) ≡ true
      → (start_at base depth (get_or (key_bytes k) (length p) 0) ≤ k) × (k < start_at base depth (get_or (key_bytes k) (length p) 0 + 1))
  byte_within k l f =
      let P : ℕ → Type 0 = λ n. (start_at base depth (get_or (key_bytes k) n 0) ≤ k) × (k < start_at base depth (get_or (key_bytes k) n 0 + 1)) in
      subst P r.depth_is (
      let e = same_prefix k l f in
      let b = top_base in
      let s = span_step depth (omega (arith, r.short)) in
      let t : first_bytes k (depth + 1) ≡ 256 * first_bytes k depth + get_or (key_bytes k) depth 0 = top_step k depth (omega (arith, r.short)) in
      let q = multiple_bounds k (span (depth + 1)) (span_pos (depth + 1)) in
      let z : first_bytes k (depth + 1) * span (depth + 1) ≡ base + get_or (key_bytes k) depth 0 * span (depth + 1) =
      ap (λ n. n * span (depth + 1)) t ∙ split (first_bytes k depth) (get_or (key_bytes k) depth 0) (span (depth + 1)) ∙ ap (λ n. n + get_or (key_bytes k) depth 0 * span (depth + 1)) (ap (λ n. first_bytes k depth * n) (sym s) ∙ ap (λ n. n * span depth) e ∙ b) in
      let more : (get_or (key_bytes k) depth 0 + 1) * span (depth + 1) ≡ get_or (key_bytes k) depth 0 * span (depth + 1) + span (depth + 1) = omega arith in
      (omega (arith, z, q.0), omega (arith, z, q.1, more)))
    where
      split : (a c s : ℕ) → (256 * a + c) * s ≡ a * (256 * s) + c * s
      split a c s = omega arith

  -- bytes in order
  pub byte_low : (k c : ℕ) → k < 2 ^ 64 → fits p (key_bytes k) ≡ true → start_at base depth c ≤ k → c ≤ get_or (key_bytes k) (length p) 0
  byte_low k c l f lo =
      let w = byte_within k l f in
      let more : (get_or (key_bytes k) (length p) 0 + 1) * span (depth + 1) ≡ get_or (key_bytes k) (length p) 0 * span (depth + 1) + span (depth + 1) = omega arith in
      between_one (span (depth + 1)) c (get_or (key_bytes k) (length p) 0) (omega (arith, w.1, lo, more))

  -- a key that begins with the prefix, below a byte's first, has a lesser byte after it
  pub byte_high : (k c : ℕ) → k < 2 ^ 64 → fits p (key_bytes k) ≡ true → k < start_at base depth c → get_or (key_bytes k) (length p) 0 < c
  byte_high k c l f hi =
      let w = byte_within k l f in
      elim (cases_lt (get_or (key_bytes k) (length p) 0) c) [
        | inl lt ↦ lt
        | inr ge ↦ (let m : c * span (depth + 1) ≤ get_or (key_bytes k) (length p) 0 * span (depth + 1) = mul-le-mul_right (span (depth + 1)) ge in absurd (omega (arith, w.0, hi, m)))
      ]

  -- the whole of the keys below the node lies between its byte 0 and its byte 256
  pub start_at_end : start_at base depth 256 ≡ base + span depth
  start_at_end = let s = span_step depth (omega (arith, r.short)) in omega (arith, s)

  -- the keys of a later byte begin no earlier
  pub start_mono : (b c : ℕ) → b ≤ c → start_at base depth b ≤ start_at base depth c
  start_mono b c l = let m : b * span (depth + 1) ≤ c * span (depth + 1) = mul-le-mul_right (span (depth + 1)) l in omega (arith, m)
