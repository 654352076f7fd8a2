use Rattle.std.proofs.Common.{◌∷◌, refl, sym, ap, ◌∙◌}
use Rattle.congee.specs.declared.forms.child.Child.TheVariants.{Value}
use Rattle.congee.specs.owned.Entries.{child_by, first_byte}
use Rattle.congee.proofs.lemmas.owned.Entering.{leaf_is}
use Rattle.congee.proofs.owned.inner.child_of.Goals as goal

pub returns-in-Leaf : goal.returns-in-Leaf
returns-in-Leaf g c = λ prefix byte e.
    ap Value (sym (leaf_is (first_byte prefix byte) c.in-Leaf.tail c.in-Leaf.value _ (ap (λ f. f ∷ c.in-Leaf.tail.bytes) e ∙ sym c.key_by.ensures) refl))
    ∙ ap (child_by prefix byte) (sym c.in-Leaf.is)
