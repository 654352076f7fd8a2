use Rattle.std.proofs.Common.{arith, ◌∷◌, refl, ap, sym, ◌∙◌, subst}
use Rattle.crossbeam_epoch.specs.world.Reach.{moment, HasMoments, step_act}
use Rattle.joint.specs.nodes.Nodes.{gone_by}
use Rattle.joint.specs.nodes.Slots.{slot_names}
use Rattle.joint.proofs.lemmas.nodes.Accounts.{moved, kept_same, unchanged_by, emptied_by, is_inside, standing_some, waits_some, bytes_some, charge_some, charged_less, kept_emptied}
use Rattle.joint.proofs.nodes.Nodes.collect.Goals as goal

pub invariant_of-self : goal.invariant_of-self
invariant_of-self g c =
    let m = moved c.self.inside.collector c.step-report.new.self c.args.who c.args.event c.step-report.result c.order.ensures.moves c.self.invariant.orderly c.step-report.ensures.report c.step-report.ensures.state in
    kept_same _ _ _ c.self.invariant m.orderly (unchanged_by c.self.inside.collector.store c.step-report.new.self.store c.step-report.result.called m.cells (ap gone_by c.in-None.is)) refl refl

pub invariant_of-self-in-Some-default-None : goal.invariant_of-self-in-Some-default-None
invariant_of-self-in-Some-default-None g c =
    let m = moved c.self.inside.collector c.step-report.new.self c.args.who c.args.event c.step-report.result c.order.ensures.moves c.self.invariant.orderly c.step-report.ensures.report c.step-report.ensures.state in
    kept_same _ _ _ c.self.invariant m.orderly (unchanged_by c.self.inside.collector.store c.step-report.new.self.store c.step-report.result.called m.cells (ap gone_by c.in-Some-default-None.is ∙ (rw c.in-Some-default-None.is at c.in-Some-default-None.field-0-1-is))) refl refl

pub take_off-size-requires-clause-inside : goal.take_off-size-requires-clause-inside
take_off-size-requires-clause-inside g c =
    let m = moved c.self.inside.collector c.step-report.new.self c.args.who c.args.event c.step-report.result c.order.ensures.moves c.self.invariant.orderly c.step-report.ensures.report c.step-report.ensures.state in
    let e = emptied_by c.cells.ensures.emptied c.self.inside.collector.store c.step-report.new.self.store c.step-report.result.called c.in-Some-default-Some.name m.cells (ap gone_by c.in-Some-default-Some.is ∙ (rw c.in-Some-default-Some.is at c.in-Some-default-Some.field-0-1-is)) in
    is_inside _ _ c.self.invariant c.in-Some-default-Some.name e.0 c.step-report.new.self.store e.1

pub take_off-size-requires-clause-stands : goal.take_off-size-requires-clause-stands
take_off-size-requires-clause-stands g c =
    let m = moved c.self.inside.collector c.step-report.new.self c.args.who c.args.event c.step-report.result c.order.ensures.moves c.self.invariant.orderly c.step-report.ensures.report c.step-report.ensures.state in
    let e = emptied_by c.cells.ensures.emptied c.self.inside.collector.store c.step-report.new.self.store c.step-report.result.called c.in-Some-default-Some.name m.cells (ap gone_by c.in-Some-default-Some.is ∙ (rw c.in-Some-default-Some.is at c.in-Some-default-Some.field-0-1-is)) in
    standing_some _ _ c.self.invariant c.in-Some-default-Some.name e.0 c.step-report.new.self.store e.1

pub take_off-size-requires-clause-some : goal.take_off-size-requires-clause-some
take_off-size-requires-clause-some g c =
    let m = moved c.self.inside.collector c.step-report.new.self c.args.who c.args.event c.step-report.result c.order.ensures.moves c.self.invariant.orderly c.step-report.ensures.report c.step-report.ensures.state in
    let e = emptied_by c.cells.ensures.emptied c.self.inside.collector.store c.step-report.new.self.store c.step-report.result.called c.in-Some-default-Some.name m.cells (ap gone_by c.in-Some-default-Some.is ∙ (rw c.in-Some-default-Some.is at c.in-Some-default-Some.field-0-1-is)) in
    waits_some _ _ c.self.invariant c.in-Some-default-Some.name e.0 c.step-report.new.self.store e.1

pub take_off-size-requires-clause-enough : goal.take_off-size-requires-clause-enough
take_off-size-requires-clause-enough g c =
    let m = moved c.self.inside.collector c.step-report.new.self c.args.who c.args.event c.step-report.result c.order.ensures.moves c.self.invariant.orderly c.step-report.ensures.report c.step-report.ensures.state in
    let e = emptied_by c.cells.ensures.emptied c.self.inside.collector.store c.step-report.new.self.store c.step-report.result.called c.in-Some-default-Some.name m.cells (ap gone_by c.in-Some-default-Some.is ∙ (rw c.in-Some-default-Some.is at c.in-Some-default-Some.field-0-1-is)) in
    bytes_some _ _ c.self.invariant c.in-Some-default-Some.name e.0 c.step-report.new.self.store e.1

pub deallocate-requires : goal.deallocate-requires
deallocate-requires g c =
    let m = moved c.self.inside.collector c.step-report.new.self c.args.who c.args.event c.step-report.result c.order.ensures.moves c.self.invariant.orderly c.step-report.ensures.report c.step-report.ensures.state in
    let e = emptied_by c.cells.ensures.emptied c.self.inside.collector.store c.step-report.new.self.store c.step-report.result.called c.in-Some-default-Some.name m.cells (ap gone_by c.in-Some-default-Some.is ∙ (rw c.in-Some-default-Some.is at c.in-Some-default-Some.field-0-1-is)) in
    let some = charge_some _ _ c.self.invariant c.in-Some-default-Some.name e.0 c.step-report.new.self.store e.1 in
    omega (arith, some, c.take_off-size.ensures.size)

pub invariant_of-self-in-Some-default-Some : goal.invariant_of-self-in-Some-default-Some
invariant_of-self-in-Some-default-Some g c =
    let m = moved c.self.inside.collector c.step-report.new.self c.args.who c.args.event c.step-report.result c.order.ensures.moves c.self.invariant.orderly c.step-report.ensures.report c.step-report.ensures.state in
    let e = emptied_by c.cells.ensures.emptied c.self.inside.collector.store c.step-report.new.self.store c.step-report.result.called c.in-Some-default-Some.name m.cells (ap gone_by c.in-Some-default-Some.is ∙ (rw c.in-Some-default-Some.is at c.in-Some-default-Some.field-0-1-is)) in
    kept_emptied _ _ _ c.self.invariant m.orderly c.in-Some-default-Some.name e.0 e.1 c.take_off-size.new.self c.take_off-size.ensures.standing (omega (arith, c.deallocate.ensures.charged, c.take_off-size.ensures.size)) refl c.take_off-size.ensures.cell_marks c.take_off-size.ensures.waiting c.take_off-size.ensures.bytes

pub returns-in-Some-default-Some-clause-charged : goal.returns-in-Some-default-Some-clause-charged
returns-in-Some-default-Some-clause-charged g c =
    let m = moved c.self.inside.collector c.step-report.new.self c.args.who c.args.event c.step-report.result c.order.ensures.moves c.self.invariant.orderly c.step-report.ensures.report c.step-report.ensures.state in
    let e = emptied_by c.cells.ensures.emptied c.self.inside.collector.store c.step-report.new.self.store c.step-report.result.called c.in-Some-default-Some.name m.cells (ap gone_by c.in-Some-default-Some.is ∙ (rw c.in-Some-default-Some.is at c.in-Some-default-Some.field-0-1-is)) in
    charged_less _ _ c.self.invariant c.in-Some-default-Some.name e.0 c.step-report.new.self.store e.1 (g.A.Allocator.charged_of c.deallocate.new.self) (omega (arith, c.deallocate.ensures.charged, c.take_off-size.ensures.size))

pub returns-in-None-clause-told : goal.returns-in-None-clause-told
returns-in-None-clause-told g c = λ h t. subst (λ s. HasMoments slot_names (moment slot_names (step_act s c.args.who c.args.event c.step-report.result) c.step-report.new.self ∷ h) c.step-report.new.self) (ap (λ x. x.collector) c.self.view_is) (c.step-report.ensures.told h (subst (λ s. HasMoments slot_names h s) (sym (ap (λ x. x.collector) c.self.view_is)) t))

pub returns-in-Some-default-None-clause-told : goal.returns-in-Some-default-None-clause-told
returns-in-Some-default-None-clause-told g c = λ h t. subst (λ s. HasMoments slot_names (moment slot_names (step_act s c.args.who c.args.event c.step-report.result) c.step-report.new.self ∷ h) c.step-report.new.self) (ap (λ x. x.collector) c.self.view_is) (c.step-report.ensures.told h (subst (λ s. HasMoments slot_names h s) (sym (ap (λ x. x.collector) c.self.view_is)) t))

pub returns-in-Some-default-Some-clause-told : goal.returns-in-Some-default-Some-clause-told
returns-in-Some-default-Some-clause-told g c = λ h t. subst (λ s. HasMoments slot_names (moment slot_names (step_act s c.args.who c.args.event c.step-report.result) c.step-report.new.self ∷ h) c.step-report.new.self) (ap (λ x. x.collector) c.self.view_is) (c.step-report.ensures.told h (subst (λ s. HasMoments slot_names h s) (sym (ap (λ x. x.collector) c.self.view_is)) t))
