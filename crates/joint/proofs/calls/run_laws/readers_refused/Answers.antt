use Rattle.joint.proofs.lemmas.calls.Readers.{readers}
use Rattle.joint.proofs.calls.run_laws.readers_refused.Goals as goal

pub returns : goal.returns
returns g c = readers g.P.Payload.same_as g.P.Payload.always_copies c.progress.ensures
