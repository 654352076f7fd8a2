use Rattle.std.proofs.Common.{List, ap, ◌∙◌}
use Rattle.optimistic.specs.declared.words.rule.Tenure.{Tenure}
use Rattle.optimistic.specs.words.Kept.{has}
use Rattle.optimistic.proofs.lemmas.tree.Writing.{stored_keeps, stored_written}
use Rattle.optimistic.proofs.tree.get.Tree.write.Goals as goal

pub returns-clause-mine : goal.returns-clause-mine
returns-clause-mine c = ap (λ (l : List Tenure). has l c.args.node) c.store.ensures.stored.mine ∙ c.requires.mine

pub returns-clause-keeps : goal.returns-clause-keeps
returns-clause-keeps c = stored_keeps c.args.node c.args.form c.args.change.word c.args.change.value _ _ c.requires.at c.requires.mine c.requires.inside.0 c.requires.inside.1 c.store.ensures.stored

pub returns-clause-written : goal.returns-clause-written
returns-clause-written c = stored_written c.args.node c.args.form c.args.change.word c.args.change.value _ _ c.requires.at c.requires.mine c.store.ensures.stored
