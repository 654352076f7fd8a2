use Rattle.optimistic.specs.tree.Trees.{IsTree}
use Rattle.optimistic.proofs.lemmas.words.Chains.{looks_keeps}
use Rattle.optimistic.proofs.tree.get.Tree.used.Goals as goal

pub returns-clause-keeps : goal.returns-clause-keeps
returns-clause-keeps c = looks_keeps IsTree c.args.hand.now.me.0 c.used.new.hand.me.0 c.used.ensures.looks
