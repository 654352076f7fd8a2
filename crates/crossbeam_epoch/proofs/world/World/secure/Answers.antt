use Rattle.std.proofs.Common.{ap, ◌∙◌}
use Rattle.crossbeam_epoch.specs.world.Machine.{secured}
use Rattle.crossbeam_epoch.specs.world.Steps.{outcome_at}
use Rattle.crossbeam_epoch.proofs.lemmas.world.Held.{place_read, placed_at}
use Rattle.crossbeam_epoch.proofs.world.World.secure.Goals as goal

pub returns : goal.returns
returns g c = record {
  state = placed_at c.args.self.now _ c.args.who c.secure.new.self c.index_mut.result.now (λ p. secured c.args.n p) c.self.view_is c.requires.in_table c.index_mut.ensures.value c.secure.ensures.place;
  outcome = c.secure.ensures.outcome ∙ ap (λ p. outcome_at p.phase) c.secure.ensures.place ∙ ap (λ p. outcome_at (secured c.args.n p).phase) (place_read c.args.self.now _ c.args.who c.index_mut.result.now c.self.view_is c.requires.in_table c.index_mut.ensures.value);
}
