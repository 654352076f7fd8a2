use Rattle.crossbeam_epoch.proofs.lemmas.world.Told.{tells_roots}
use Rattle.crossbeam_epoch.proofs.world.World.change_tag.Goals as goal

pub returns-clause-told : goal.returns-clause-told
returns-clause-told g c = tells_roots g.T.Links.names c.args.self.now c.set_tag.new.self _ c.set_tag.ensures
