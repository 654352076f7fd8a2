use Rattle.optimistic.proofs.lemmas.words.Chains.{later_keeps}
use Rattle.optimistic.proofs.lemmas.words.Moments.{since_trans}
use Rattle.optimistic.proofs.tree.get.Tree.get_by.Goals as goal

pub returns-clause-keeps : goal.returns-clause-keeps
returns-clause-keeps g c = later_keeps c.args.hand.now.me.0 c.try_by.new.hand.me.0 c.get.new.hand.me.0 c.try_by.ensures.later c.get.ensures.keeps

pub returns-clause-since : goal.returns-clause-since
returns-clause-since g c = since_trans c.args.hand.now.me.0.seen c.try_by.new.hand.me.0.seen c.get.new.hand.me.0.seen c.try_by.ensures.since c.get.ensures.since
