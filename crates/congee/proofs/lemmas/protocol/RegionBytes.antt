-- The keys that begin with given bytes.
use Rattle.std.proofs.Common.{◌≡◌, ℕ, zero, suc, ◌<◌, ◌≤◌, ◌+◌, ◌*◌, ◌-◌, ◌/◌, ◌%◌, ◌^◌, List, length, take, get_or, refl, sym, ap, ◌∙◌, subst, arith}
use Rattle.std.specs.Int.{w64, from_be_bytes}
use Rattle.std.proofs.lemmas.Nat.{be_bytes_8}
use Rattle.std.proofs.lemmas.List.{get_or-take}
use Rattle.std.proofs.Math.Nat.{div-one, mul-mod_left}
use Rattle.congee.specs.Keys.{key_bytes}
use Rattle.congee.specs.protocol.Regions.{span, IsRegion}
use Rattle.congee.proofs.lemmas.Orders.{first_bytes, top_step}
use Rattle.congee.proofs.lemmas.forms.Prefixes.{fits_every}
use Rattle.congee.proofs.lemmas.protocol.Regions.{span_step}

-- a number whose last bytes are 0
ends_zero : (n d base : ℕ) → d + n ≡ 8 → ((j : ℕ) → d ≤ j → j < 8 → get_or (key_bytes base) j 0 ≡ 0) → first_bytes base d * span d ≡ base
ends_zero zero d base e z =
    let eight : d ≡ 8 = omega (arith, e) in
    let P : ℕ → Type 0 = λ x. first_bytes base x * span x ≡ base in
    let one : base / 1 ≡ base = div-one base in
    subst P (sym eight) (omega (arith, one))
ends_zero (suc n) d base e z =
    let h : first_bytes base (d + 1) * span (d + 1) ≡ base = ends_zero n (d + 1) base (omega (arith, e)) (λ j l k. z j (omega (arith, l)) k) in
    let s = span_step d (omega (arith, e)) in
    let t : first_bytes base (d + 1) ≡ 256 * first_bytes base d + get_or (key_bytes base) d 0 = top_step base d (omega (arith, e)) in
    let b : get_or (key_bytes base) d 0 ≡ 0 = z d (omega arith) (omega (arith, e)) in
    let u : first_bytes base (d + 1) ≡ 256 * first_bytes base d = omega (arith, t, b) in
    ap (λ x. first_bytes base d * x) s ∙ regroup (first_bytes base d) (span (d + 1)) ∙ ap (λ x. x * span (d + 1)) (sym u) ∙ h
  where
    regroup : (q s : ℕ) → q * (256 * s) ≡ 256 * q * s
    regroup q s = omega arith

-- the keys that begin with a prefix are those from its bytes on, filled up with zeros
pub region_of : (bytes prefix : List ℕ) (base : ℕ) → length bytes ≡ 8 → length prefix ≤ 7 → take (length prefix) bytes ≡ prefix → ((j : ℕ) → get_or bytes j 0 < 256)
    → ((j : ℕ) → length prefix ≤ j → get_or bytes j 0 ≡ 0) → base ≡ from_be_bytes w64 bytes → base < 2 ^ 64 → IsRegion prefix base (length prefix)
region_of bytes prefix base size short same low zeros e small =
    let k : key_bytes base ≡ bytes = be_bytes_8 bytes base size low e in
    let z : first_bytes base (length prefix) * span (length prefix) ≡ base = ends_zero (8 - length prefix) (length prefix) base (omega (arith, short)) (λ j l b. ap (λ x. get_or x j 0) k ∙ zeros j l) in
    record {
      depth_is = refl;
      short = short;
      small = small;
      fitted = fits_every prefix (key_bytes base) (omega (arith, short)) (λ j l. ap (λ x. get_or x j 0) k ∙ (sym (get_or-take (length prefix) bytes j 0 l) ∙ ap (λ x. get_or x j 0) same));
      even = ap (λ x. x % span (length prefix)) (sym z) ∙ mul-mod_left (first_bytes base (length prefix)) (span (length prefix));
    }
