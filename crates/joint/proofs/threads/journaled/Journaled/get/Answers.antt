use Rattle.std.proofs.Common.{sym, subst}
use Rattle.std.specs.Prelude.{IfErr}
use Rattle.joint.specs.threads.Threads.{IsOfReader}
use Rattle.joint.proofs.lemmas.threads.WritingEnds.{words_refused}
use Rattle.joint.proofs.threads.journaled.Journaled.get.Goals as goal

pub returns-clause-refused : goal.returns-clause-refused
returns-clause-refused g c = subst (λ r. IfErr r IsOfReader) (sym c.words.ensures) (words_refused g.V.Word64.of_word IsOfReader c.get.result c.get.ensures.refused)
