use Rattle.joint.specs.threads.Threads.{IsOfReader}
use Rattle.joint.proofs.lemmas.threads.WritingEnds.{owned_pair_refused}
use Rattle.joint.proofs.threads.congee_arc.CongeeArc.next_after.Goals as goal

pub returns-clause-answers : goal.returns-clause-answers
returns-clause-answers g c = (c.nearest.result, rw c.to_word.ensures.number at c.nearest.ensures.answers, c.owner_pair.ensures)

pub returns-clause-refused : goal.returns-clause-refused
returns-clause-refused g c = owned_pair_refused g.K.Word64.of_word IsOfReader c.owner_pair.result c.nearest.result c.owner_pair.ensures c.nearest.ensures.refused
