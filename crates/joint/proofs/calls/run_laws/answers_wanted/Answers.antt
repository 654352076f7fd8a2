use Rattle.joint.proofs.lemmas.calls.Wanted.{step_wants, run_wants, fresh_wants}
use Rattle.joint.proofs.calls.run_laws.answers_wanted.Goals as goal

pub returns-clause-step : goal.returns-clause-step
returns-clause-step g c = step_wants g.P.Payload.same_as g.P.Payload.always_copies

pub returns-clause-run : goal.returns-clause-run
returns-clause-run g c = run_wants g.P.Payload.same_as g.P.Payload.always_copies

pub returns-clause-fresh : goal.returns-clause-fresh
returns-clause-fresh g c = fresh_wants g.P.Payload.same_as g.P.Payload.always_copies
