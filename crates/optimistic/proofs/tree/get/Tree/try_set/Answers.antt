use Rattle.optimistic.proofs.lemmas.tree.Setting.{set_later, no_more_from}
use Rattle.optimistic.proofs.tree.get.Tree.try_set.Goals as goal

pub returns-else-not-allowed-clause-set : goal.returns-else-not-allowed-clause-set
returns-else-not-allowed-clause-set c = set_later c.args.write.key c.args.write.value c.set_at.result c.args.hand.now.me.0 c.reach.new.hand.me.0 c.set_at.new.hand.me.0 c.reach.ensures.keeps.0 c.set_at.ensures.set

pub returns-else-not-allowed-clause-no_more : goal.returns-else-not-allowed-clause-no_more
returns-else-not-allowed-clause-no_more c = no_more_from c.args.hand.now.me.0 c.reach.new.hand.me.0 c.set_at.new.hand.me.0 c.reach.ensures.mine c.set_at.ensures.no_more
