use Rattle.optimistic.proofs.lemmas.words.Moments.{width_some}
use Rattle.optimistic.proofs.tree.get.Tree.settle_write.Goals as goal

pub unlock-requires-clause-some : goal.unlock-requires-clause-some
unlock-requires-clause-some c = width_some c.args.at.form c.requires.at.some c.requires.at.form
