use Rattle.std.proofs.Common.{refl, sym, ap, subst, ◌∙◌}
use Rattle.congee.specs.declared.forms.child.Child.TheVariants.{Value}
use Rattle.congee.specs.owned.Entries.{Begins, first_byte}
use Rattle.congee.proofs.lemmas.owned.Entering.{leaf_is}
use Rattle.congee.proofs.owned.inner.entry_of.Goals as goal

pub returns-in-Value : goal.returns-in-Value
returns-in-Value g c = λ prefix byte b.
    ap Value (leaf_is (first_byte prefix byte) c.tail_of.result c.in-Value.lone.value c.in-Value.lone (c.tail_of.ensures (first_byte prefix byte) (subst (Begins (first_byte prefix byte)) c.in-Value.is b)) refl)
    ∙ sym c.in-Value.is
