use Rattle.crossbeam_epoch.proofs.lemmas.world.Logs.{shows_opened, shows_step, shows_run, shows_moments, shows_registered, shows_deferred, shows_stored, shows_rooted}
use Rattle.crossbeam_epoch.proofs.world.World.watched.Goals as goal

pub returns : goal.returns
returns g c = record {
  opened = λ limits roots. shows_opened limits roots;
  step = λ log h s step r is w. shows_step log h s step r is w;
  run = λ log h s steps reports are w. shows_run log h s steps reports are w;
  moments = λ log h s steps reports are w. shows_moments g.T.Links.names log h s steps reports are w;
  registered = λ log h s n w. shows_registered log h s n w;
  deferred = λ log h s who work w. shows_deferred log h s who work w;
  stored = λ log h s st w. shows_stored log h s st w;
  rooted = λ log h s roots w. shows_rooted log h s roots w;
}
