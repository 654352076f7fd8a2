use Rattle.joint.proofs.threads.congee_arc.CongeeArc.remove.Goals as goal

pub returns-clause-answers : goal.returns-clause-answers
returns-clause-answers g c = (c.remove.result, rw c.to_word.ensures.number at c.remove.ensures, c.owners.ensures)
