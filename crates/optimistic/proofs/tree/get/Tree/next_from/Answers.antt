use Rattle.std.proofs.Common.{◌∙◌}
use Rattle.optimistic.specs.tree.Nexts.{IsFirst}
use Rattle.optimistic.proofs.lemmas.tree.Sights.{stood_from}
use Rattle.optimistic.proofs.lemmas.words.Chains.{later_trans}
use Rattle.optimistic.proofs.lemmas.words.Moments.{since_trans}
use Rattle.optimistic.proofs.tree.get.Tree.next_from.Goals as goal

pub returns-in-Some-next_soon-clause-first : goal.returns-in-Some-next_soon-clause-first
returns-in-Some-next_soon-clause-first g c =
    stood_from (λ log. IsFirst log c.args.from c.in-Some-next_soon.first) c.args.hand.now.me.0 c.loop.hand.me.0 c.next_soon.new.hand.me.0 c.loop.invariant.3 c.in-Some-next_soon.ensures.first.1

pub loop-preserved : goal.loop-preserved
loop-preserved g c =
    let v = c.args.hand.now.me.0 in
    let u = c.loop.hand.me.0 in
    let w = c.next_soon.new.hand.me.0 in
    let i = c.loop.invariant in
    let e = c.next_soon.ensures in
    (e.of, later_trans v u w i.1 e.later, e.mine ∙ i.2, since_trans v.seen u.seen w.seen i.3 e.since)
