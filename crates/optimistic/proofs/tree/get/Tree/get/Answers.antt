use Rattle.std.proofs.Common.{◌∙◌}
use Rattle.optimistic.proofs.lemmas.words.Chains.{later_trans}
use Rattle.optimistic.proofs.lemmas.words.Moments.{since_trans}
use Rattle.optimistic.proofs.tree.get.Tree.get.Goals as goal

pub loop-preserved : goal.loop-preserved
loop-preserved g c =
    let v = c.args.hand.now.me.0 in
    let u = c.loop.hand.me.0 in
    let w = c.get_soon.new.hand.me.0 in
    let i = c.loop.invariant in
    let e = c.get_soon.ensures in
    (e.of, later_trans v u w i.1 e.later, e.mine ∙ i.2, since_trans v.seen u.seen w.seen i.3 e.since)
