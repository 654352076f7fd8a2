use Rattle.std.proofs.Common.{ap, ◌∙◌}
use Rattle.crossbeam_epoch.specs.world.Steps.{begin_fault, begun_at, outcome_or, place_or}
use Rattle.crossbeam_epoch.proofs.lemmas.world.Held.{place_read, placed_at}
use Rattle.crossbeam_epoch.proofs.lemmas.world.Within.{worker_within}
use Rattle.crossbeam_epoch.proofs.world.World.begin.Goals as goal

pub returns : goal.returns
returns g c = record {
  state = placed_at c.args.self.now _ c.args.who c.begin.new.self c.index_mut.result.now (λ p. place_or (begin_fault c.args.op p) (begun_at c.args.op p) p) c.self.view_is c.requires.in_table c.index_mut.ensures.value c.begin.ensures.place;
  outcome = c.begin.ensures.outcome ∙ ap (λ p. outcome_or (begin_fault c.args.op p) (begun_at c.args.op p)) (place_read c.args.self.now _ c.args.who c.index_mut.result.now c.self.view_is c.requires.in_table c.index_mut.ensures.value);
}

pub index_mut-requires : goal.index_mut-requires
index_mut-requires g c = worker_within c.args.self.now _ c.args.who _ c.self.view_is c.self.inside.participants.ok.0 c.requires.in_table
