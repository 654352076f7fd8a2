use Rattle.optimistic.proofs.lemmas.tree.Setting.{place_since}
use Rattle.optimistic.proofs.tree.get.Tree.below.Goals as goal

pub returns-else-on-clause-place : goal.returns-else-on-clause-place
returns-else-on-clause-place c = place_since c.args.at c.args.hand.now.me.0 c.child-child.new.hand.me.0 c.child-child.ensures.looks.since c.requires.at
