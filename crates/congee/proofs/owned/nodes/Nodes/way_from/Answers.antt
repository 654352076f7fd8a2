use Rattle.std.proofs.Common.{sym, ap, ◌∙◌}
use Rattle.std.specs.Option.{option_copied}
use Rattle.congee.proofs.lemmas.owned.Appending.{slot_on_way}
use Rattle.congee.proofs.owned.nodes.Nodes.way_from.Goals as goal

pub returns-in-Some : goal.returns-in-Some
returns-in-Some g c =
    slot_on_way c.self.inside.slab c.args.self.now c.self.view_is c.args.near c.in-Some.node.now c.args.key.now (sym c.get.ensures ∙ ap option_copied c.in-Some.is) (sym c.is_prefix_of.ensures ∙ c.if-is_prefix_of.true)
