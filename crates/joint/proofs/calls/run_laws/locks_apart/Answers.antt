use Rattle.joint.proofs.lemmas.calls.HeldNodes.{locks_apart, locks_held, marked_left}
use Rattle.joint.proofs.calls.run_laws.locks_apart.Goals as goal

pub returns-clause-apart : goal.returns-clause-apart
returns-clause-apart g c = locks_apart g.P.Payload.same_as g.P.Payload.always_copies c.call_laws.ensures

pub returns-clause-held : goal.returns-clause-held
returns-clause-held g c = locks_held g.P.Payload.same_as g.P.Payload.always_copies c.call_laws.ensures

pub returns-clause-marked : goal.returns-clause-marked
returns-clause-marked g c = marked_left g.P.Payload.same_as g.P.Payload.always_copies c.call_laws.ensures
