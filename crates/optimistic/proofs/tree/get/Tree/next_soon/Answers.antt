use Rattle.std.proofs.Common.{◌∙◌}
use Rattle.optimistic.specs.tree.Trees.{IsTree}
use Rattle.optimistic.proofs.lemmas.tree.Alone.{disturbed_in, not_some}
use Rattle.optimistic.proofs.lemmas.tree.Sights.{stood_from}
use Rattle.optimistic.proofs.lemmas.words.Chains.{later_keeps, later_trans, looks_keeps}
use Rattle.optimistic.proofs.lemmas.words.Moments.{since_refl, since_trans}
use Rattle.optimistic.proofs.tree.get.Tree.next_soon.Goals as goal

pub loop-attempt-preserved : goal.loop-attempt-preserved
loop-attempt-preserved c =
    let v = c.args.hand.now.me.0 in
    let u = c.loop-attempt.hand.me.0 in
    let w = c.try_next.new.hand.me.0 in
    let i = c.loop-attempt.invariant in
    let e = c.try_next.ensures in (
      e.of,
      later_trans v u w i.1 (looks_keeps IsTree u w e.looks).0,
      e.looks.mine ∙ i.2,
      since_trans v.seen u.seen w.seen i.3 e.looks.since,
      λ _. disturbed_in v.seen u.seen w.seen w.seen i.3 (not_some c.try_next.result _ c.in_default.not-Some e.alone) (since_refl w.seen),
    )

pub returns-in-Some-clause-first : goal.returns-in-Some-clause-first
returns-in-Some-clause-first c =
    let v = c.args.hand.now.me.0 in
    let u = c.loop-attempt.hand.me.0 in
    let w = c.try_next.new.hand.me.0 in
    let i = c.loop-attempt.invariant in
    (later_keeps v u w i.1 (looks_keeps IsTree u w c.try_next.ensures.looks), stood_from _ v u w i.3 c.in-Some.ensures.first)
