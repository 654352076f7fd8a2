use Rattle.std.proofs.Common.{◌≡◌, length, refl, arith}
use Rattle.std.proofs.lemmas.Bool.Decides.{nat_tests}
use Rattle.congee.proofs.lemmas.forms.MaskLemmas.{no_children, no_bits, no_mask}
use Rattle.congee.proofs.forms.masked.Masked.new.Goals as goal

pub invariant_of-result : goal.invariant_of-result
invariant_of-result g c =
    let full : length c.loop-children.children.items ≡ 256 = grind (arith, nat_tests, c.loop-children-test.ensures.value, c.loop-children-test.false) in
    (no_children no_mask c.loop-children.children.items refl no_bits full).0

pub returns : goal.returns
returns g c =
    let full : length c.loop-children.children.items ≡ 256 = grind (arith, nat_tests, c.loop-children-test.ensures.value, c.loop-children-test.false) in
    (no_children no_mask c.loop-children.children.items refl no_bits full).1
