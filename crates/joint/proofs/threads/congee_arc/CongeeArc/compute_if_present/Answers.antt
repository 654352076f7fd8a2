use Rattle.std.proofs.Common.{◌∙◌}
use Rattle.joint.proofs.threads.congee_arc.CongeeArc.compute_if_present.Goals as goal

pub returns-clause-answers : goal.returns-clause-answers
returns-clause-answers g c = (c.compute_if_present-answer.result, rw (c.new-answers.ensures, c.to_word.ensures.number) at c.compute_if_present-answer.ensures, c.owners.ensures ∙ c.befores.ensures)
