use Rattle.joint.proofs.lemmas.calls.AloneTold.{all_told, idle_unlocked}
use Rattle.joint.proofs.calls.run_laws.alone_by_reports.Goals as goal

pub returns-clause-runs : goal.returns-clause-runs
returns-clause-runs g c s taken h x = all_told g.P.Payload.same_as g.P.Payload.always_copies s taken h x (c.runs_alone.ensures.runs s taken h x)

pub returns-clause-idle : goal.returns-clause-idle
returns-clause-idle g c = idle_unlocked g.P.Payload.same_as g.P.Payload.always_copies
