use Rattle.std.proofs.Common.{◌∙◌}
use Rattle.optimistic.proofs.lemmas.tree.Alone.{disturbed_in, not_some}
use Rattle.optimistic.proofs.lemmas.words.Chains.{later_trans}
use Rattle.optimistic.proofs.lemmas.words.Moments.{since_refl, since_trans}
use Rattle.optimistic.proofs.tree.get.Tree.get_soon.Goals as goal

pub loop-attempt-preserved : goal.loop-attempt-preserved
loop-attempt-preserved c =
    let v = c.args.hand.now.me.0 in
    let u = c.loop-attempt.hand.me.0 in
    let w = c.try_get.new.hand.me.0 in
    let i = c.loop-attempt.invariant in
    let e = c.try_get.ensures in (
      e.of,
      later_trans v u w i.1 e.later,
      e.mine ∙ i.2,
      since_trans v.seen u.seen w.seen i.3 e.since,
      λ _. disturbed_in v.seen u.seen w.seen w.seen i.3 (not_some c.try_get.result _ c.in_default.not-Some e.alone) (since_refl w.seen),
    )
