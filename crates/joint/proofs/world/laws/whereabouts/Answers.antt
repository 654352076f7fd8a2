use Rattle.joint.proofs.lemmas.world.Whereabouts.{node_somewhere}
use Rattle.joint.proofs.world.laws.whereabouts.Goals as goal

pub returns : goal.returns
returns g c s h = node_somewhere g.P.Payload.same_as g.P.Payload.always_copies c.call_laws.ensures s h
