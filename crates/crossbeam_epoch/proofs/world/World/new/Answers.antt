use Rattle.std.proofs.Common.{rules}
use Rattle.crossbeam_epoch.proofs.lemmas.world.Told.{tells_opened}
use Rattle.crossbeam_epoch.proofs.world.World.new.Goals as goal

pub returns-clause-told : goal.returns-clause-told
returns-clause-told g c = λ two. tells_opened g.T.Links.names c.args.limits c.args.roots _ (search rules) two
