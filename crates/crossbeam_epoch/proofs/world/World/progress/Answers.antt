use Rattle.crossbeam_epoch.proofs.lemmas.world.Progress.{no_call_yet, no_call_begins}
use Rattle.crossbeam_epoch.proofs.lemmas.world.Stages.{reported_begins, reported_goes_on}
use Rattle.crossbeam_epoch.proofs.world.World.progress.Goals as goal

pub returns : goal.returns
returns g c = record {
  begins = λ s who op r idle is. reported_begins s who op r idle is;
  goes_on = λ s who op r o on is. reported_goes_on s who op r o on is;
  first = λ s who op r is. no_call_begins s who op r is;
  quiet = λ s who r e is. no_call_yet s who r e is;
}
