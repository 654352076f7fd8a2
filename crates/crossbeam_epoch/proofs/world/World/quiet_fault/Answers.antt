use Rattle.std.proofs.Common.{ap, ◌∙◌}
use Rattle.crossbeam_epoch.specs.world.Steps.{quiet_fault}
use Rattle.crossbeam_epoch.proofs.lemmas.world.Held.{place_read}
use Rattle.crossbeam_epoch.proofs.world.World.quiet_fault.Goals as goal

pub returns : goal.returns
returns g c = c.quiet_fault.ensures ∙ ap (λ p. quiet_fault p.phase p) (place_read c.args.self.now _ c.args.who c.index.result.now c.self.view_is c.requires.in_table c.index.ensures)
