use Rattle.joint.proofs.lemmas.world.Waiting.{standing_listed}
use Rattle.joint.proofs.world.World.charged.Goals as goal

pub returns-clause-listed : goal.returns-clause-listed
returns-clause-listed g c = standing_listed c.args.self.now.forest
