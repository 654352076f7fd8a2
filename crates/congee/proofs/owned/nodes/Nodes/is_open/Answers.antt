use Rattle.std.proofs.Common.{◌≡◌, sym, ap, ◌∙◌}
use Rattle.std.specs.Prelude.{Some}
use Rattle.std.specs.Option.{option_copied}
use Rattle.slab.specs.Slab.{get}
use Rattle.congee.specs.declared.owned.slots.Slot.TheVariants.{Leaf}
use Rattle.congee.proofs.lemmas.owned.Appending.{slot_open}
use Rattle.congee.proofs.owned.nodes.Nodes.is_open.Goals as goal

pub returns : goal.returns
returns g c = λ t.
    slot_open c.self.inside.slab c.args.self.now c.self.view_is c.args.slot c.in-Some-Leaf.field-0.now c.args.key.now (sym c.get.ensures ∙ ap option_copied c.in-Some-Leaf.is)
    c.self.inside.inline c.self.invariant c.in-Some-Leaf.leaf c.in-Some-Leaf.field-0-is (sym c.is_prefix_of.ensures ∙ c.if-not-is_prefix_of.false) (sym c.is_full.ensures ∙ c.if-is_full.false)
    c.get_child.result c.get_child.ensures c.is_none.result c.is_none.ensures t
