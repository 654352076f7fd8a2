use Rattle.std.proofs.Common.{subst}
use Rattle.crossbeam_epoch.specs.world.Store.{IsNext}
use Rattle.crossbeam_epoch.proofs.lemmas.world.Told.{tells_placed, placed_new}
use Rattle.crossbeam_epoch.proofs.world.World.place.Goals as goal
use Rattle.crossbeam_epoch.proofs.world.World.place.Goals.{in-Ok, in-Err}

pub returns-clause-told : goal.returns-clause-told
returns-clause-told g c = tells_placed g.T.Links.names c.args.self.now _ c.place.new.self c.args.value c.place.result c.self.view_is c.place.ensures.ok c.place.ensures.back

pub returns-clause-fresh : goal.returns-clause-fresh
returns-clause-fresh g c = elim c.match-place.branch [
  | in-Ok w ↦ rw w.result-is (placed_new g.T.Links.names c.args.self.now w.in-Ok.name (subst (λ s. IsNext s.store w.in-Ok.name) c.self.view_is w.in-Ok.ensures.ok.0))
  | in-Err w ↦ rw w.result-is tt
]
