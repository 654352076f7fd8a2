use Rattle.joint.proofs.threads.word_congee.Congee.insert.Goals as goal

pub returns-clause-answers : goal.returns-clause-answers
returns-clause-answers g c = (c.insert.result, rw (c.to_word.ensures.number, c.to_word-2.ensures.number) at c.insert.ensures, c.words.ensures)
