use Rattle.joint.proofs.lemmas.calls.Answering.{all_decide}
use Rattle.joint.proofs.calls.run_laws.calls_answer.Goals as goal

pub returns : goal.returns
returns g c = all_decide g.P.Payload.same_as
