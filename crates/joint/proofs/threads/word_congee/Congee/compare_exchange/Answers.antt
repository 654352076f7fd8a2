use Rattle.joint.proofs.threads.word_congee.Congee.compare_exchange.Goals as goal

pub returns-clause-answers : goal.returns-clause-answers
returns-clause-answers g c = (c.compare_exchange.result, rw (c.to_word-key.ensures.number, c.to_word-old.ensures.number, c.number_of-new.ensures) at c.compare_exchange.ensures, c.either_words.ensures)
