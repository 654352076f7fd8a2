use Rattle.std.proofs.Common.{sym, subst}
use Rattle.std.specs.Prelude.{IfErr}
use Rattle.joint.specs.threads.Threads.{IsOfReader}
use Rattle.joint.proofs.lemmas.threads.WritingEnds.{pair_refused}
use Rattle.joint.proofs.threads.journaled.Journaled.at_or_before.Goals as goal

pub returns-clause-answers : goal.returns-clause-answers
returns-clause-answers g c = (c.nearest.result, rw c.to_word.ensures.number at c.nearest.ensures.answers, c.word_pair.ensures)

pub returns-clause-refused : goal.returns-clause-refused
returns-clause-refused g c = subst (λ r. IfErr r IsOfReader) (sym c.word_pair.ensures) (pair_refused g.K.Word64.of_word g.V.Word64.of_word IsOfReader c.nearest.result c.nearest.ensures.refused)
