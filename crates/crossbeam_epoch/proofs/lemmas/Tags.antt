-- Bounds of tags.
use Rattle.std.proofs.Common.{◌≡◌, ℕ, ◌<◌, ◌≤◌, ◌^◌, ◌%◌, arith, sym}
use Rattle.std.specs.Prelude.{bit_or, bit_xor}
use Rattle.std.proofs.Common.{lit<}
use Rattle.std.proofs.Math.Nat.{mod-lt, pow-le-pow_right}
use Rattle.std.proofs.lemmas.Nat.{or_lt, xor_lt, pow_pos}

-- both bits of two numbers below a power of two lie below it
pub or_below : (n k a b : ℕ) → n ≡ 2 ^ k → a < n → b < n → bit_or a b < n
or_below n k a b e p q = rw e (or_lt k a b (rw (sym e) p) (rw (sym e) q))

-- the exclusive or of two numbers below a power of two is below it
pub xor_below : (n k a b : ℕ) → n ≡ 2 ^ k → a < n → b < n → bit_xor a b < n
xor_below n k a b e p q = rw e (xor_lt k a b (rw (sym e) p) (rw (sym e) q))

-- a number modulo a power of two of at most 256 fits 8 bits
pub rest_fits : (n m k : ℕ) → m ≡ 2 ^ k → k ≤ 8 → n % m < 256
rest_fits n m k e b =
    let p : 0 < m = rw e (pow_pos k) in
    let q : 2 ^ k ≤ 2 ^ 8 = pow-le-pow_right (lit< tt) b in
    let r = mod-lt n p in
    omega (arith, e, q, r)
