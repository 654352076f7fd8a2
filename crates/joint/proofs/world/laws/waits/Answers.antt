use Rattle.joint.proofs.lemmas.world.Waiting.{waiting_listed}
use Rattle.joint.proofs.world.laws.waits.Goals as goal

pub returns : goal.returns
returns g c s h = waiting_listed g.P.Payload.same_as g.P.Payload.always_copies c.call_laws.ensures s h
