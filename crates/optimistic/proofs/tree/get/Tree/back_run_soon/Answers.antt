use Rattle.std.proofs.Common.{take}
use Rattle.optimistic.proofs.lemmas.tree.RunsBack.{told_back_from}
use Rattle.optimistic.proofs.lemmas.words.Moments.{since_trans}
use Rattle.optimistic.proofs.tree.get.Tree.back_run_soon.Goals as goal

pub returns-in-Some-clause-told : goal.returns-in-Some-clause-told
returns-in-Some-clause-told c =
    told_back_from c.in-Some.run' c.args.from c.args.first c.args.places (take c.in-Some.run'.count c.try_back_run.new.out) c.args.hand.now.me.0 c.loop.hand.me.0 c.try_back_run.new.hand.me.0 c.loop.invariant.3 c.in-Some.ensures.told

pub returns-in-Some-clause-since : goal.returns-in-Some-clause-since
returns-in-Some-clause-since c = since_trans c.args.hand.now.me.0.seen c.loop.hand.me.0.seen c.try_back_run.new.hand.me.0.seen c.loop.invariant.3 c.try_back_run.ensures.looks.since
