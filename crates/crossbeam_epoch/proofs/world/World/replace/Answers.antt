use Rattle.crossbeam_epoch.proofs.lemmas.world.Told.{tells_replaced}
use Rattle.crossbeam_epoch.proofs.world.World.replace.Goals as goal

pub returns-clause-told : goal.returns-clause-told
returns-clause-told g c = tells_replaced g.T.Links.names c.args.self.now _ c.replace.new.self c.args.name c.args.value c.replace.result c.self.view_is c.replace.ensures.ok c.replace.ensures.err
