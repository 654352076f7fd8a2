-- Where an element of a slice lies.
use Rattle.std.proofs.Common.{ℕ, zero, suc, ◌<◌, ◌≤◌, ◌*◌, ◌^◌, Fits, w64, arith}

mul_le : (p n s : ℕ) → p ≤ n → p * s ≤ n * s
mul_le zero n s l = omega arith
mul_le (suc p) zero s l = absurd (omega arith)
mul_le (suc p) (suc n) s l = omega (arith, mul_le p n s (omega arith))

-- the offset of an element in a slice of less than 2^63 bytes fits in 64 bits
pub offset_fits : (p n s : ℕ) → p < n → n * s < 2 ^ 63 → Fits w64 (p * s)
offset_fits p n s l m = omega (arith, mul_le p n s (omega arith))
