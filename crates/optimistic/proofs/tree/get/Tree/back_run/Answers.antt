use Rattle.std.proofs.Common.{take}
use Rattle.optimistic.proofs.lemmas.tree.RunsBack.{told_back_from}
use Rattle.optimistic.proofs.tree.get.Tree.back_run.Goals as goal

pub returns-in-Some-back_run_soon-clause-told : goal.returns-in-Some-back_run_soon-clause-told
returns-in-Some-back_run_soon-clause-told g c =
    told_back_from c.in-Some-back_run_soon.run' c.args.from c.args.first c.args.places (take c.in-Some-back_run_soon.run'.count c.back_run_soon.new.out) c.args.hand.now.me.0 c.loop.hand.me.0 c.back_run_soon.new.hand.me.0 c.loop.invariant.3 c.in-Some-back_run_soon.ensures.told
