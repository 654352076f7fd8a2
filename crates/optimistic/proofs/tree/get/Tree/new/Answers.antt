use Rattle.optimistic.proofs.lemmas.tree.Empty.{empty_tree}
use Rattle.optimistic.proofs.tree.get.Tree.new.Goals as goal

pub new-requires-clause-empty : goal.new-requires-clause-empty
new-requires-clause-empty c = empty_tree c.args.words c.requires.0
