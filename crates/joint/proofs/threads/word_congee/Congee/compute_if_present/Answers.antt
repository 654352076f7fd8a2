use Rattle.joint.proofs.threads.word_congee.Congee.compute_if_present.Goals as goal

pub compute_if_present-answer-requires : goal.compute_if_present-answer-requires
compute_if_present-answer-requires g c = rw c.new-answers.ensures c.requires

pub returns-clause-answers : goal.returns-clause-answers
returns-clause-answers g c = rw (c.new-answers.ensures, c.to_word.ensures.number) at c.compute_if_present-answer.ensures
