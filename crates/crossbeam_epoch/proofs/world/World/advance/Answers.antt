use Rattle.std.proofs.Common.{refl}
use Rattle.crossbeam_epoch.proofs.lemmas.world.Held.{advanced_at, stayed_at}
use Rattle.crossbeam_epoch.proofs.lemmas.world.Within.{worker_within}
use Rattle.crossbeam_epoch.proofs.world.World.advance.Goals as goal

pub returns-then-seen-self : goal.returns-then-seen-self
returns-then-seen-self g c = record {
  state = stayed_at c.args.self.now _ c.args.who c.args.seen _ c.index_mut.result.now c.self.view_is c.requires.in_table c.index_mut.ensures.value refl c.if-seen-self.true;
  outcome = refl;
}

pub returns : goal.returns
returns g c = record {
  state = advanced_at c.args.self.now _ c.args.who c.args.seen _ c.index_mut-2.result.now c.self.view_is c.requires.in_table c.index_mut-2.ensures.value refl c.if-seen-self.false;
  outcome = refl;
}

pub index_mut-requires : goal.index_mut-requires
index_mut-requires g c = worker_within c.args.self.now _ c.args.who _ c.self.view_is c.self.inside.participants.ok.0 c.requires.in_table

pub index_mut-requires-2 : goal.index_mut-requires-2
index_mut-requires-2 g c = worker_within c.args.self.now _ c.args.who _ c.self.view_is c.self.inside.participants.ok.0 c.requires.in_table
