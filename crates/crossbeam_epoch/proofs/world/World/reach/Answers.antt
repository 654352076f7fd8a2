use Rattle.crossbeam_epoch.proofs.lemmas.world.Reaches.{visible_link, seen_stands}
use Rattle.crossbeam_epoch.proofs.world.World.reach.Goals as goal

pub returns : goal.returns
returns g c = record { stands = λ h s p n t u pinned seen. seen_stands g.T.Links.names h s p n t u pinned seen; closed = visible_link }
