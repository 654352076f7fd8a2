use Rattle.optimistic.proofs.lemmas.tree.Reading.{steady}
use Rattle.optimistic.proofs.tree.get.Tree.read.Goals as goal

pub returns-clause-steady : goal.returns-clause-steady
returns-clause-steady c = steady c.args.node c.args.form c.args.word c.load.result _ _ c.requires.inside.0 c.requires.inside.1 c.load.ensures.looks c.load.ensures.found
