use Rattle.crossbeam_epoch.proofs.lemmas.world.Acts.{step_by, turns_apart, deferred_before, ended_deferred}
use Rattle.crossbeam_epoch.proofs.lemmas.world.Reaches.{act_steady}
use Rattle.crossbeam_epoch.proofs.lemmas.world.Told.{marks_act}
use Rattle.crossbeam_epoch.proofs.world.World.acts.Goals as goal

pub returns : goal.returns
returns g c = record {
  step = λ s who event r. step_by s who event r;
  marks = λ h s who event r. marks_act s who event r h;
  others = λ who p act by ne. turns_apart who p act by ne;
  began = λ h p act e. act_steady act h p e;
  deferred = λ h who t n act by d. deferred_before h who t n act by d;
  destroyed = λ h who n act by e l. ended_deferred h who n act by e l;
}
