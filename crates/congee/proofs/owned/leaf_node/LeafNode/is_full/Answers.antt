use Rattle.std.proofs.Common.{◌∙◌}
use Rattle.congee.proofs.lemmas.owned.Keeping.{full_by}
use Rattle.congee.proofs.owned.leaf_node.LeafNode.is_full.Goals as goal

pub returns : goal.returns
returns g c = c.is_full.ensures ∙ full_by g.P.Stored.value_in c.self.inside.prefix c.self.inside.values c.args.self.now c.self.view_is
