use Rattle.std.proofs.Common.{◌≢◌, sym, ap, subst, ◌∙◌, OnOk, OnErr}
use Rattle.std.proofs.result.Match.{on_err_then}
use Rattle.congee.specs.protocol.Steps.{form_below}
use Rattle.congee.specs.declared.forms.base_node.NodeType.TheVariants.{N4}
use Rattle.congee.specs.declared.owned.slots.Slot.TheVariants.{Inner, Leaf}
use Rattle.congee.specs.owned.Kinds.{form_in}
use Rattle.congee.specs.owned.Lesser.{Shrunk}
use Rattle.congee.proofs.lemmas.owned.Lessening.{is_shrunk}
use Rattle.congee.proofs.owned.slots.Slot.shrink.Goals as goal

pub returns-in-Inner-clause-shrunk : goal.returns-in-Inner-clause-shrunk
returns-in-Inner-clause-shrunk g c = subst (λ s. OnOk c.shrink.result (Shrunk s (Inner c.shrink.new.self))) (sym c.in-Inner.is) (is_shrunk c.in-Inner.n c.shrink.new.self c.shrink.result c.shrink.ensures.form c.shrink.ensures.prefix c.shrink.ensures.children)

pub returns-in-Inner-clause-refused : goal.returns-in-Inner-clause-refused
returns-in-Inner-clause-refused g c = on_err_then c.shrink.result (λ e. ap Inner e ∙ sym c.in-Inner.is) c.shrink.ensures.refused

pub returns-in-Inner-clause-memory : goal.returns-in-Inner-clause-memory
returns-in-Inner-clause-memory g c = subst (λ s. OnErr c.shrink.result (form_below (form_in s) ≢ N4)) (sym c.in-Inner.is) c.shrink.ensures.memory

pub returns-in-Leaf-clause-shrunk : goal.returns-in-Leaf-clause-shrunk
returns-in-Leaf-clause-shrunk g c = subst (λ s. OnOk c.shrink-in-Leaf.result (Shrunk s (Leaf c.shrink-in-Leaf.new.self))) (sym c.in-Leaf.is) (is_shrunk c.in-Leaf.n c.shrink-in-Leaf.new.self c.shrink-in-Leaf.result c.shrink-in-Leaf.ensures.form c.shrink-in-Leaf.ensures.prefix c.shrink-in-Leaf.ensures.children)

pub returns-in-Leaf-clause-refused : goal.returns-in-Leaf-clause-refused
returns-in-Leaf-clause-refused g c = on_err_then c.shrink-in-Leaf.result (λ e. ap Leaf e ∙ sym c.in-Leaf.is) c.shrink-in-Leaf.ensures.refused

pub returns-in-Leaf-clause-memory : goal.returns-in-Leaf-clause-memory
returns-in-Leaf-clause-memory g c = subst (λ s. OnErr c.shrink-in-Leaf.result (form_below (form_in s) ≢ N4)) (sym c.in-Leaf.is) c.shrink-in-Leaf.ensures.memory
