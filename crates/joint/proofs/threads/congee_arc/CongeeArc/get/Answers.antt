use Rattle.joint.specs.threads.Threads.{IsOfReader}
use Rattle.joint.proofs.lemmas.threads.WritingEnds.{owned_refused}
use Rattle.joint.proofs.threads.congee_arc.CongeeArc.get.Goals as goal

pub returns-clause-answers : goal.returns-clause-answers
returns-clause-answers g c = (c.get.result, rw c.to_word.ensures.number at c.get.ensures.answers, c.owners.ensures)

pub returns-clause-refused : goal.returns-clause-refused
returns-clause-refused g c = owned_refused IsOfReader c.owners.result c.get.result c.owners.ensures c.get.ensures.refused
