use Rattle.joint.proofs.lemmas.calls.Runs.{runs_join, all_hold}
use Rattle.joint.proofs.calls.laws.runs_join.Goals as goal

pub returns-clause-joins : goal.returns-clause-joins
returns-clause-joins g c = runs_join g.P.Payload.same_as g.P.Payload.always_copies

pub returns-clause-holds : goal.returns-clause-holds
returns-clause-holds g c = all_hold g.P.Payload.same_as g.P.Payload.always_copies
