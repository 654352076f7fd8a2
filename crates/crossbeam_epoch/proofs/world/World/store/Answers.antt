use Rattle.crossbeam_epoch.proofs.lemmas.world.Told.{tells_write}
use Rattle.crossbeam_epoch.proofs.world.World.store.Goals as goal

pub returns-clause-told : goal.returns-clause-told
returns-clause-told g c = tells_write g.T.Links.names c.args.self.now _ _ c.self.view_is
