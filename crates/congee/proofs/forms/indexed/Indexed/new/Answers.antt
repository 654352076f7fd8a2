use Rattle.std.proofs.Common.{◌≡◌, length, arith}
use Rattle.std.proofs.lemmas.Bool.Decides.{nat_tests}
use Rattle.congee.proofs.lemmas.forms.IndexLemmas.{no_children}
use Rattle.congee.proofs.forms.indexed.Indexed.new.Goals as goal

pub invariant_of-result : goal.invariant_of-result
invariant_of-result g c =
    let full : length c.loop-children.children.items ≡ 48 = grind (arith, nat_tests, c.loop-children-test.ensures.value, c.loop-children-test.false) in
    (no_children c.new.result c.loop-children.children.items c.new.ensures.ok c.new.ensures.len c.new.ensures.none full).0

pub returns : goal.returns
returns g c =
    let full : length c.loop-children.children.items ≡ 48 = grind (arith, nat_tests, c.loop-children-test.ensures.value, c.loop-children-test.false) in
    (no_children c.new.result c.loop-children.children.items c.new.ensures.ok c.new.ensures.len c.new.ensures.none full).1
