use Rattle.std.proofs.Common.{refl}
use Rattle.crossbeam_epoch.proofs.lemmas.world.Held.{placed_at}
use Rattle.crossbeam_epoch.proofs.world.World.look.Goals as goal

pub returns : goal.returns
returns g c = record {
  state = placed_at c.args.self.now _ c.args.who _ c.index_mut.result.now (λ p. record p { phase = c.args.next }) c.self.view_is c.requires.in_table c.index_mut.ensures.value refl;
  outcome = refl;
}
