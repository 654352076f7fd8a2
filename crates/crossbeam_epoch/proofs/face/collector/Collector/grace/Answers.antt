use Rattle.crossbeam_epoch.proofs.lemmas.face.Pins.{graceful}
use Rattle.crossbeam_epoch.proofs.face.collector.Collector.grace.Goals as goal

pub returns : goal.returns
returns g c = graceful
