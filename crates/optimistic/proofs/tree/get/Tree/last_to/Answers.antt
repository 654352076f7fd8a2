use Rattle.std.proofs.Common.{◌+◌, ◌∙◌}
use Rattle.optimistic.specs.tree.Nexts.{IsLast}
use Rattle.optimistic.proofs.lemmas.tree.Sights.{stood_from}
use Rattle.optimistic.proofs.lemmas.words.Chains.{later_trans}
use Rattle.optimistic.proofs.lemmas.words.Moments.{since_trans}
use Rattle.optimistic.proofs.tree.get.Tree.last_to.Goals as goal

pub returns-in-Some-last_soon-clause-last : goal.returns-in-Some-last_soon-clause-last
returns-in-Some-last_soon-clause-last g c =
    stood_from (λ log. IsLast log (c.args.to + 1) c.in-Some-last_soon.last) c.args.hand.now.me.0 c.loop.hand.me.0 c.last_soon.new.hand.me.0 c.loop.invariant.3 c.in-Some-last_soon.ensures.last.1

pub loop-preserved : goal.loop-preserved
loop-preserved g c =
    let v = c.args.hand.now.me.0 in
    let u = c.loop.hand.me.0 in
    let w = c.last_soon.new.hand.me.0 in
    let i = c.loop.invariant in
    let e = c.last_soon.ensures in
    (e.of, later_trans v u w i.1 e.later, e.mine ∙ i.2, since_trans v.seen u.seen w.seen i.3 e.since)
