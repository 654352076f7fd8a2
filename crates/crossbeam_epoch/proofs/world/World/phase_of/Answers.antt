use Rattle.std.proofs.Common.{ap}
use Rattle.crossbeam_epoch.proofs.lemmas.world.Held.{place_read}
use Rattle.crossbeam_epoch.proofs.world.World.phase_of.Goals as goal

pub returns : goal.returns
returns g c = ap (λ p. p.phase) (place_read c.args.self.now _ c.args.who c.index.result.now c.self.view_is c.requires.in_table c.index.ensures)
