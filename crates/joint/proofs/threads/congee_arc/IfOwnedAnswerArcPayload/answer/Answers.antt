use Rattle.std.proofs.Common.{rules}
use Rattle.joint.proofs.threads.congee_arc.IfOwnedAnswerArcPayload.answer.Goals as goal

pub returns-in-Some-clause-answers : goal.returns-in-Some-clause-answers
returns-in-Some-clause-answers g c = rw c.in-Some.is (c.into_arc.result, c.call_mut.result, c.into_arc.ensures, search rules, c.payload_of.ensures)
