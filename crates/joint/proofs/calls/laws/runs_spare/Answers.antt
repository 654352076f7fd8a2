use Rattle.joint.proofs.lemmas.calls.Sparing.{all_spare}
use Rattle.joint.proofs.calls.laws.runs_spare.Goals as goal

pub returns : goal.returns
returns g c = all_spare g.P.Payload.same_as g.P.Payload.always_copies c.leaves.ensures
