use Rattle.std.proofs.Common.{sym, ◌∙◌}
use Rattle.congee.proofs.lemmas.owned.Stored.{slot_there, slot_fits}
use Rattle.congee.proofs.owned.nodes.Nodes.is_prefix_of.Goals as goal

pub index-requires : goal.index-requires
index-requires g c = slot_there c.self.inside.slab c.args.slot (rw c.self.view_is c.requires)

pub returns : goal.returns
returns g c = c.is_prefix_of.ensures ∙ sym (slot_fits c.self.inside.slab c.args.self.now c.self.view_is c.args.slot c.index.result.now c.args.key.now c.index.ensures)
