use Rattle.optimistic.proofs.lemmas.MoveLemmas.{looks_trans}
use Rattle.optimistic.proofs.changes.count_with.Goals as goal

pub returns-then-has_child-clause-looks : goal.returns-then-has_child-clause-looks
returns-then-has_child-clause-looks g c = looks_trans _ _ _ _ c.load-first.ensures.looks c.load-count.ensures.looks

pub returns-else-has_child-clause-looks : goal.returns-else-has_child-clause-looks
returns-else-has_child-clause-looks g c = looks_trans _ _ _ _ c.load-first.ensures.looks c.load-count.ensures.looks
