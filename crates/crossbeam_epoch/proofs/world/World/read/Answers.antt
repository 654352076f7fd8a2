use Rattle.crossbeam_epoch.proofs.lemmas.world.Reaches.{seen_link}
use Rattle.crossbeam_epoch.proofs.world.World.read.Goals as goal

pub returns-clause-links : goal.returns-clause-links
returns-clause-links g c = λ h p n t keeps seen holds. seen_link g.T.Links.names h c.args.self.now p c.args.name n t keeps seen holds
