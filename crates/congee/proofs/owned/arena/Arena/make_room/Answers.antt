use Rattle.std.proofs.Common.{rules, arith, ap, ◌∙◌}
use Rattle.std.specs.Prelude.{IfErr}
use Rattle.slab.specs.Slab.{SameValues}
use Rattle.congee.specs.forms.Forms.{size_of}
use Rattle.congee.specs.owned.OwnedSteps.{IsRefusal}
use Rattle.congee.proofs.lemmas.owned.Rooms.{err_in, of_ok, same_keeps, roomy_now, roomy_gain, roomy_fits, full_refused, full_fits, grown_now, grown_bytes, grown_gain, grown_keeps}
use Rattle.congee.proofs.lemmas.owned.Sizes.{bytes_same}
use Rattle.congee.proofs.owned.arena.Arena.make_room.Goals as goal

pub returns-then-not-is_full-clause-grows : goal.returns-then-not-is_full-clause-grows
returns-then-not-is_full-clause-grows g c = roomy_now c.args.self.now.nodes c.args.at c.is_full.result c.requires.stands c.is_full.ensures (search rules)

pub returns-then-not-is_full-clause-grown : goal.returns-then-not-is_full-clause-grown
returns-then-not-is_full-clause-grown g c = roomy_gain c.args.self.now.nodes c.args.at c.is_full.result c.requires.stands c.is_full.ensures (search rules)

pub returns-then-not-is_full-clause-fits : goal.returns-then-not-is_full-clause-fits
returns-then-not-is_full-clause-fits g c = roomy_fits c.args.self.now.nodes c.args.at c.is_full.result c.requires.stands c.is_full.ensures _ _ (search rules)

pub returns-in_err-allocate-clause-refused : goal.returns-in_err-allocate-clause-refused
returns-in_err-allocate-clause-refused g c =
    let r : IfErr c.from_residual.result (λ e. IsRefusal (g.A.Allocator.charged_of c.args.self.now.allocator) c.size.result (g.A.Allocator.limit_of c.args.self.now.allocator) e) = search rules in
    err_in _ _ c.from_residual.result (λ e k. full_refused c.args.self.now.nodes c.args.at c.is_full.result c.requires.stands c.is_full.ensures (search rules) c.node_type-form.result c.node_type-form.ensures
    _ c.size.result _ e (c.size.ensures ∙ ap size_of c.next-next.ensures) k) r

pub returns-then-is_err-clause-balance : goal.returns-then-is_err-clause-balance
returns-then-is_err-clause-balance g c =
    let same : SameValues c.args.self.now.nodes c.grow.new.self = search rules in
    let b = bytes_same c.args.self.now.nodes c.grow.new.self same in
    omega (arith, b, c.size-then-is_err.ensures, c.size.ensures, c.in_ok-allocate.ensures.ok, c.deallocate.ensures.charged)

pub returns-then-is_err-clause-refused : goal.returns-then-is_err-clause-refused
returns-then-is_err-clause-refused g c =
    full_refused c.args.self.now.nodes c.args.at c.is_full.result c.requires.stands c.is_full.ensures (search rules) c.node_type-form.result c.node_type-form.ensures
    _ c.size.result _ _ (c.size.ensures ∙ ap size_of c.next-next.ensures) c.in_ok-allocate.ensures.fits

pub returns-then-is_err-clause-keeps : goal.returns-then-is_err-clause-keeps
returns-then-is_err-clause-keeps g c =
    let same : SameValues c.args.self.now.nodes c.grow.new.self = search rules in
    same_keeps c.args.self.now.nodes c.grow.new.self same c.grow.ensures.capacity

pub returns-clause-grows : goal.returns-clause-grows
returns-clause-grows g c =
    let grows = of_ok c.grow.result c.if-is_err.ensures.negation c.grow.ensures.grown in
    grown_now c.args.self.now.nodes c.args.at c.is_full.result c.requires.stands c.is_full.ensures (search rules) c.node_type-form.result c.node_type-form.ensures c.grow.new.self c.grow.ensures.capacity grows

pub returns-clause-balance : goal.returns-clause-balance
returns-clause-balance g c =
    let grows = of_ok c.grow.result c.if-is_err.ensures.negation c.grow.ensures.grown in
    let b = grown_bytes c.args.self.now.nodes c.args.at c.is_full.result c.requires.stands c.is_full.ensures (search rules) c.node_type-form.result c.node_type-form.ensures c.grow.new.self c.grow.ensures.capacity grows in
    omega (arith, b, c.size-2.ensures, c.size.ensures, ap size_of c.next-next.ensures, c.in_ok-allocate.ensures.ok, c.deallocate-2.ensures.charged)

pub returns-clause-fits : goal.returns-clause-fits
returns-clause-fits g c =
    full_fits c.args.self.now.nodes c.args.at c.is_full.result c.requires.stands c.is_full.ensures (search rules) c.node_type-form.result c.node_type-form.ensures
    _ c.size.result _ (c.size.ensures ∙ ap size_of c.next-next.ensures) c.in_ok-allocate.ensures.fits

pub returns-clause-grown : goal.returns-clause-grown
returns-clause-grown g c =
    let grows = of_ok c.grow.result c.if-is_err.ensures.negation c.grow.ensures.grown in
    grown_gain c.args.self.now.nodes c.args.at c.is_full.result c.requires.stands c.is_full.ensures (search rules) c.node_type-form.result c.node_type-form.ensures c.grow.new.self c.grow.ensures.capacity grows

pub returns-clause-keeps : goal.returns-clause-keeps
returns-clause-keeps g c =
    let grows = of_ok c.grow.result c.if-is_err.ensures.negation c.grow.ensures.grown in
    grown_keeps c.args.self.now.nodes c.args.at c.is_full.result c.requires.stands c.is_full.ensures (search rules) c.node_type-form.result c.node_type-form.ensures c.grow.new.self c.grow.ensures.capacity grows
