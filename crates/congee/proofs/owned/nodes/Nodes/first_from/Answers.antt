use Rattle.std.proofs.Common.{◌≡◌, ◌+◌, ◌*◌, sym, ap, ◌∙◌, arith}
use Rattle.slab.specs.Slab.{get}
use Rattle.congee.specs.owned.Naming.{offset_of}
use Rattle.congee.proofs.owned.nodes.Nodes.first_from.Goals as goal

pub returns-in-Some-clause-first : goal.returns-in-Some-clause-first
returns-in-Some-clause-first g c = λ x e.
    let name : c.args.at ≡ 257 * c.at.inside.slot + (c.in-Some.byte + 1) = sym c.at.view_is ∙ ap (λ b. 257 * c.at.inside.slot + offset_of b) c.in-Some.is in
    c.first_inline.ensures.first x (ap (get c.args.self.now) (sym name) ∙ e)

pub returns-in-None-clause-first : goal.returns-in-None-clause-first
returns-in-None-clause-first g c = λ x e.
    let name : c.args.at ≡ 257 * c.at.inside.slot = sym c.at.view_is ∙ (ap (λ b. 257 * c.at.inside.slot + offset_of b) c.in-None.is ∙ omega arith) in
    c.first_in_slot.ensures.first x (ap (get c.args.self.now) (sym name) ∙ e)
