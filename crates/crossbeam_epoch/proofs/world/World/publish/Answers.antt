use Rattle.std.proofs.Common.{ap, ◌∙◌}
use Rattle.crossbeam_epoch.specs.world.Machine.{published}
use Rattle.crossbeam_epoch.specs.world.Steps.{outcome_at}
use Rattle.crossbeam_epoch.proofs.lemmas.world.Held.{place_read, placed_at}
use Rattle.crossbeam_epoch.proofs.world.World.publish.Goals as goal

pub returns : goal.returns
returns g c = record {
  state = placed_at c.args.self.now _ c.args.who c.publish.new.self c.index_mut.result.now (λ p. published c.args.seen p) c.self.view_is c.requires.in_table c.index_mut.ensures.value c.publish.ensures.place;
  outcome = c.publish.ensures.outcome ∙ ap (λ p. outcome_at p.phase) c.publish.ensures.place ∙ ap (λ p. outcome_at (published c.args.seen p).phase) (place_read c.args.self.now _ c.args.who c.index_mut.result.now c.self.view_is c.requires.in_table c.index_mut.ensures.value);
}
