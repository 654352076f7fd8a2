use Rattle.std.proofs.Common.{length, sym, ap, ◌∙◌}
use Rattle.congee.specs.forms.Forms.{prefix_of}
use Rattle.congee.proofs.lemmas.owned.Stored.{inline_seen, lone_prefix, named_slot, named_seen, seen_prefix}
use Rattle.congee.proofs.owned.nodes.Nodes.prefix_len.Goals as goal

pub index-requires : goal.index-requires
index-requires g c = named_slot c.self.inside.slab c.args.self.now c.self.view_is c.args.at c.at.inside.slot c.at.inside.byte c.at.view_is c.in-None.is c.requires

pub returns-in-None-clause-count : goal.returns-in-None-clause-count
returns-in-None-clause-count g c = λ x e.
    c.prefix_len.ensures.count ∙ (ap length (sym (seen_prefix c.at.inside.slot c.index.result.now))
    ∙ ap (λ n. length (prefix_of n)) (named_seen c.self.inside.slab c.args.self.now c.self.view_is c.args.at c.at.inside.slot c.at.inside.byte c.at.view_is c.in-None.is c.index.result.now x c.index.ensures e))

pub returns-in-Some-clause-count : goal.returns-in-Some-clause-count
returns-in-Some-clause-count g c = λ x e.
    let s = inline_seen c.self.inside.slab c.args.self.now c.self.view_is c.args.at c.at.inside.slot c.at.inside.byte c.at.view_is c.in-Some.field-0 x c.in-Some.is c.at.invariant e in
    sym (lone_prefix s.0) ∙ ap (λ n. length (prefix_of n)) s.1
