use Rattle.crossbeam_epoch.proofs.lemmas.world.Progress.{moves_reported, opened_rests, opened_weighs, registered_keeps, deferred_keeps, deferral_keeps}
use Rattle.crossbeam_epoch.proofs.world.World.order.Goals as goal

pub returns : goal.returns
returns g c = record {
  moves = λ s who event r o is. moves_reported s who event r o is;
  opened = λ limits roots. opened_rests limits roots;
  empty = λ limits roots f. opened_weighs g.row.T.Denot limits roots f;
  registered = λ s n lt o. registered_keeps s n lt o;
  deferred = λ s who work lt room o. deferred_keeps s who work lt room o;
  deferral = λ s who work e o. deferral_keeps s who work e o;
}
