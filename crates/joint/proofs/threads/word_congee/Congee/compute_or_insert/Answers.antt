use Rattle.joint.proofs.threads.word_congee.Congee.compute_or_insert.Goals as goal

pub compute_or_insert-before-requires : goal.compute_or_insert-before-requires
compute_or_insert-before-requires g c = rw c.new-answers.ensures c.requires

pub returns-clause-answers : goal.returns-clause-answers
returns-clause-answers g c = (c.compute_or_insert-before.result, rw (c.new-answers.ensures, c.to_word.ensures.number) at c.compute_or_insert-before.ensures, c.words.ensures)
