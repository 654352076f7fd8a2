use Rattle.std.proofs.Common.{arith, ap, ◌∙◌, pow_mono, w64}
use Rattle.std.specs.Int.{bit_at}
use Rattle.std.proofs.lemmas.Nat.Bits.{bit_at-trailing_ones}
use Rattle.optimistic.proofs.forms.bits.free_place.Goals as goal

pub returns-then-place-places : goal.returns-then-place-places
returns-then-place-places c =
    let m = c.args.mask in
    let z = bit_at-trailing_ones w64 m (omega (arith, c.requires.fits, pow_mono {i = c.args.places} {j = 63} (omega (arith, c.requires.few)))) in
    (c.if-place-places.true, ap (bit_at m) c.trailing_ones-place.ensures ∙ z.1)

pub returns-else-place-places : goal.returns-else-place-places
returns-else-place-places c i l =
    let m = c.args.mask in
    let z = bit_at-trailing_ones w64 m (omega (arith, c.requires.fits, pow_mono {i = c.args.places} {j = 63} (omega (arith, c.requires.few)))) in
    z.2 i (omega (arith, l, c.trailing_ones-place.ensures, c.if-place-places.false))
