use Rattle.std.proofs.Common.{take, ◌∙◌}
use Rattle.optimistic.proofs.lemmas.tree.Runs.{told_from}
use Rattle.optimistic.proofs.lemmas.words.Chains.{later_trans}
use Rattle.optimistic.proofs.lemmas.words.Moments.{since_trans}
use Rattle.optimistic.proofs.tree.get.Tree.run.Goals as goal

pub returns-in-Some-run_soon-clause-told : goal.returns-in-Some-run_soon-clause-told
returns-in-Some-run_soon-clause-told g c =
    told_from c.in-Some-run_soon.run' c.args.from c.args.last c.args.places (take c.in-Some-run_soon.run'.count c.run_soon.new.out) c.args.hand.now.me.0 c.loop.hand.me.0 c.run_soon.new.hand.me.0 c.loop.invariant.3 c.in-Some-run_soon.ensures.told

pub loop-preserved : goal.loop-preserved
loop-preserved g c =
    let v = c.args.hand.now.me.0 in
    let u = c.loop.hand.me.0 in
    let w = c.run_soon.new.hand.me.0 in
    let i = c.loop.invariant in
    let e = c.run_soon.ensures in
    (e.of, later_trans v u w i.1 e.later, e.mine ∙ i.2, since_trans v.seen u.seen w.seen i.3 e.since, e.trail, e.same ∙ i.5)
