use Rattle.crossbeam_epoch.proofs.lemmas.world.Logs.{log_graceful, log_later, log_once, log_pinned, log_stands}
use Rattle.crossbeam_epoch.proofs.world.World.log.Goals as goal

pub returns : goal.returns
returns g c = record {
  called = λ log h s w f. log_graceful log h s w f;
  later = λ log h s w f. log_later log h s w f;
  once = λ log h s t w f. log_once log h s t w f;
  pinned = λ log h s q w f. log_pinned log h s q w f;
  stands = λ log h s p n w t u out seen. log_stands g.T.Links.names log h s p n w t u out seen;
}
