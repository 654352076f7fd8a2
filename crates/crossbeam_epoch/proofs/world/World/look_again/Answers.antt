use Rattle.std.proofs.Common.{◌≡◌, ap, ◌∙◌}
use Rattle.crossbeam_epoch.specs.world.Machine.{relooked, place}
use Rattle.crossbeam_epoch.specs.world.Steps.{outcome_at}
use Rattle.crossbeam_epoch.proofs.lemmas.world.Held.{place_read, placed_at}
use Rattle.crossbeam_epoch.proofs.lemmas.world.Within.{worker_within}
use Rattle.crossbeam_epoch.proofs.world.World.look_again.Goals as goal

pub index_mut-requires : goal.index_mut-requires
index_mut-requires g c = worker_within c.args.self.now _ c.args.who _ c.self.view_is c.self.inside.participants.ok.0 c.requires.in_table

pub returns : goal.returns
returns g c =
    let old = c.index_mut.result.now in
    let made : c.look_again.new.self ≡ relooked c.args.self.now.epoch old = c.look_again.ensures.place ∙ ap (λ s. relooked s.epoch old) c.self.view_is in
    let at : old ≡ place c.args.self.now c.args.who = place_read c.args.self.now _ c.args.who old c.self.view_is c.requires.in_table c.index_mut.ensures.value in
    record {
      state = placed_at c.args.self.now _ c.args.who c.look_again.new.self old (λ p. relooked c.args.self.now.epoch p) c.self.view_is c.requires.in_table c.index_mut.ensures.value made;
      outcome = c.look_again.ensures.outcome ∙ ap (λ p. outcome_at p.phase) made ∙ ap (λ p. outcome_at (relooked c.args.self.now.epoch p).phase) at;
    }
