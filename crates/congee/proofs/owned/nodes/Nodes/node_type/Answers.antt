use Rattle.std.proofs.Common.{sym, ap, ◌∙◌}
use Rattle.congee.specs.forms.Forms.{form_of}
use Rattle.congee.proofs.lemmas.owned.Stored.{named_slot, named_seen, seen_form, inline_seen}
use Rattle.congee.proofs.owned.nodes.Nodes.node_type.Goals as goal

pub index-requires : goal.index-requires
index-requires g c = named_slot c.self.inside.slab c.args.self.now c.self.view_is c.args.at c.at.inside.slot c.at.inside.byte c.at.view_is c.in-None.is c.requires

pub returns-in-None : goal.returns-in-None
returns-in-None g c = λ x e.
    c.node_type.ensures ∙ (sym (seen_form c.at.inside.slot c.index.result.now)
    ∙ ap form_of (named_seen c.self.inside.slab c.args.self.now c.self.view_is c.args.at c.at.inside.slot c.at.inside.byte c.at.view_is c.in-None.is c.index.result.now x c.index.ensures e))

pub returns-in-Some : goal.returns-in-Some
returns-in-Some g c = λ x e.
    ap form_of (inline_seen c.self.inside.slab c.args.self.now c.self.view_is c.args.at c.at.inside.slot c.at.inside.byte c.at.view_is c.in-Some.field-0 x c.in-Some.is c.at.invariant e).1
