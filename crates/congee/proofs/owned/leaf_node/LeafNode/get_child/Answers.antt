use Rattle.std.proofs.Common.{sym, ap, ◌∙◌}
use Rattle.std.specs.Option.{option_copied}
use Rattle.congee.proofs.lemmas.owned.Keeping.{none_at, seen_at}
use Rattle.congee.proofs.owned.leaf_node.LeafNode.get_child.Goals as goal

pub returns-in-None : goal.returns-in-None
returns-in-None g c = sym (none_at g.P.Stored.value_in c.self.inside.prefix c.self.inside.values c.args.self.now c.self.view_is c.args.byte (sym c.get_child.ensures ∙ ap option_copied c.in-None.is))

pub returns-in-Some : goal.returns-in-Some
returns-in-Some g c = seen_at g.P.Stored.value_in c.self.inside.prefix c.self.inside.values c.args.self.now c.self.view_is c.self.invariant c.args.byte c.in-Some.kept.now (option_copied c.look.result) c.look.ensures (sym c.get_child.ensures ∙ ap option_copied c.in-Some.is)
