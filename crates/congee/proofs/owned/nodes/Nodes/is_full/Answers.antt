use Rattle.std.proofs.Common.{sym, ap, ◌∙◌}
use Rattle.congee.specs.forms.Forms.{is_full_of}
use Rattle.congee.proofs.lemmas.owned.Stored.{named_slot, named_seen, seen_full, inline_seen, lone_full}
use Rattle.congee.proofs.owned.nodes.Nodes.is_full.Goals as goal

pub index-requires : goal.index-requires
index-requires g c = named_slot c.self.inside.slab c.args.self.now c.self.view_is c.args.at c.at.inside.slot c.at.inside.byte c.at.view_is c.in-None.is c.requires

pub returns-in-None : goal.returns-in-None
returns-in-None g c = λ x e.
    c.is_full.ensures ∙ (sym (seen_full c.at.inside.slot c.index.result.now)
    ∙ ap is_full_of (named_seen c.self.inside.slab c.args.self.now c.self.view_is c.args.at c.at.inside.slot c.at.inside.byte c.at.view_is c.in-None.is c.index.result.now x c.index.ensures e))

pub returns-in-Some : goal.returns-in-Some
returns-in-Some g c = λ x e.
    let s = inline_seen c.self.inside.slab c.args.self.now c.self.view_is c.args.at c.at.inside.slot c.at.inside.byte c.at.view_is c.in-Some.field-0 x c.in-Some.is c.at.invariant e in
    sym (lone_full s.0) ∙ ap is_full_of s.1
