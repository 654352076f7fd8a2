use Rattle.std.proofs.Common.{◌≡◌, suc, ◌-◌, ◌*◌, ◌%◌, ◌^◌, ◌<◌, sym, ap, subst, ◌∙◌, arith, bit_and, pow_pos, pow_mono}
use Rattle.std.proofs.lemmas.Nat.Bits.{and_pow}
use Rattle.std.proofs.lemmas.Nat.{and-not, and_comm}
use Rattle.std.proofs.Math.Nat.{two-pow-succ}
use Rattle.optimistic.proofs.lemmas.forms.BitsAt.{clear_bit}
use Rattle.optimistic.proofs.forms.bits.without_bit.Goals as goal

pub returns-clause-bits : goal.returns-clause-bits
returns-clause-bits c q = clear_bit c.args.mask c.args.place q c.ranges.mask.fits c.requires

pub returns-clause-smaller : goal.returns-clause-smaller
returns-clause-smaller c is =
    let m = c.args.mask in
    let k = c.args.place in
    let small : 2 ^ k < 2 ^ 64 = omega (arith, two-pow-succ k, pow_pos k, pow_mono {i = suc k} {j = 64} (omega arith)) in
    let one : 1 * 2 ^ k % 2 ^ 64 ≡ 2 ^ k = omega arith in
    let parts = and-not 64 (2 ^ k) m small c.ranges.mask.fits in
    let there : bit_and (2 ^ k) m ≡ 1 * 2 ^ k = and_comm _ _ ∙ and_pow m k ∙ ap (λ x. x * 2 ^ k) is in
    subst (λ x. bit_and m (2 ^ 64 - 1 - x) < m) (sym one) (omega (arith, and_comm m (2 ^ 64 - 1 - 2 ^ k), pow_pos k))
