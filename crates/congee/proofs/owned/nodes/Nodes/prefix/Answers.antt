use Rattle.std.proofs.Common.{sym, ap, ◌∙◌}
use Rattle.congee.specs.forms.Forms.{prefix_of}
use Rattle.congee.proofs.lemmas.owned.Stored.{named_slot, named_seen, own_byte, seen_prefix}
use Rattle.congee.proofs.owned.nodes.Nodes.prefix.Goals as goal

pub index-requires : goal.index-requires
index-requires g c = named_slot c.self.inside.slab c.args.self.now c.self.view_is c.args.at c.at.inside.slot c.at.inside.byte c.at.view_is (own_byte c.args.at c.at.inside.slot c.at.inside.byte c.at.view_is c.at.invariant c.requires.own) c.requires.stands

pub returns-clause-bytes : goal.returns-clause-bytes
returns-clause-bytes g c = λ x e.
    c.prefix.ensures.bytes ∙ (sym (seen_prefix c.at.inside.slot c.index.result.now)
    ∙ ap prefix_of (named_seen c.self.inside.slab c.args.self.now c.self.view_is c.args.at c.at.inside.slot c.at.inside.byte c.at.view_is (own_byte c.args.at c.at.inside.slot c.at.inside.byte c.at.view_is c.at.invariant c.requires.own) c.index.result.now x c.index.ensures e))
