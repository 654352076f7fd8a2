use Rattle.optimistic.proofs.lemmas.tree.Holding.{some_word}
use Rattle.optimistic.proofs.tree.get.Tree.let_go.Goals as goal

pub release-requires-clause-some : goal.release-requires-clause-some
release-requires-clause-some c = some_word c.args.node.at c.args.hand.now.me.0 c.requires.locked.held.place
