use Rattle.std.proofs.Common.{sym, subst}
use Rattle.std.specs.Prelude.{IfErr}
use Rattle.joint.specs.threads.Threads.{IsOfReader}
use Rattle.joint.proofs.lemmas.threads.WritingEnds.{words_refused}
use Rattle.joint.proofs.threads.word_congee.Congee.get.Goals as goal

pub returns-clause-answers : goal.returns-clause-answers
returns-clause-answers g c = (c.get.result, rw c.to_word.ensures.number at c.get.ensures.answers, c.words.ensures)

pub returns-clause-refused : goal.returns-clause-refused
returns-clause-refused g c = subst (λ r. IfErr r IsOfReader) (sym c.words.ensures) (words_refused g.V.Word64.of_word IsOfReader c.get.result c.get.ensures.refused)
