use Rattle.crossbeam_epoch.proofs.lemmas.world.Sealing.{sealing_opened, sealing_after, sealing_run, sealing_registered, sealing_deferral, sealing_beside}
use Rattle.crossbeam_epoch.proofs.world.World.seals.Goals as goal

pub returns : goal.returns
returns g c = record {
  opened = λ limits roots. sealing_opened limits roots;
  step = λ h s who event r f is i. sealing_after h s who event r is f i;
  run = λ h s steps reports f are i. sealing_run h s steps reports are f i;
  registered = λ s n lt i. sealing_registered s n lt i;
  deferred = λ s who work e i. sealing_deferral s who work e i;
  stored = λ s st roots i. sealing_beside s st roots i;
}
