use Rattle.joint.proofs.lemmas.calls.StretchRuns.{stands_on}
use Rattle.joint.proofs.calls.run_laws.guards_keep.Goals as goal

pub returns : goal.returns
returns g c = stands_on g.P.Payload.same_as g.P.Payload.always_copies c.call_laws.ensures c.cell_laws.ensures c.leaves.ensures
