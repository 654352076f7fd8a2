use Rattle.std.proofs.Common.{refl, true}
use Rattle.crossbeam_epoch.proofs.lemmas.world.Held.{placed_at}
use Rattle.crossbeam_epoch.proofs.lemmas.world.Told.{tells_registered, tells_still}
use Rattle.crossbeam_epoch.proofs.lemmas.world.Within.{worker_within}
use Rattle.crossbeam_epoch.proofs.world.World.register.Goals as goal

pub index_mut-place-requires : goal.index_mut-place-requires
index_mut-place-requires g c = worker_within c.args.self.now _ c.in-Some.n _ c.self.view_is c.self.inside.participants.ok.0 c.in-Some.ensures.free.0

pub returns-in-Some : goal.returns-in-Some
returns-in-Some g c =
    let state = placed_at c.args.self.now _ c.in-Some.n _ c.index_mut-place.result.now (λ p. record p { registered = true; pins = 0 }) c.self.view_is c.in-Some.ensures.free.0 c.index_mut-place.ensures.value refl in
    record {
      state = state;
      free = c.in-Some.ensures.free;
      lowest = c.in-Some.ensures.below;
      told = tells_registered g.T.Links.names c.args.self.now _ c.in-Some.n state c.in-Some.ensures.free.0;
    }

pub returns-in-None : goal.returns-in-None
returns-in-None g c = record { state = (refl, refl); free = tt; lowest = c.in-None.ensures.below; told = tells_still g.T.Links.names c.args.self.now _ refl }
