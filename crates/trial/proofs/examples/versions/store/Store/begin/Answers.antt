use Rattle.std.proofs.Common.{ap}
use Rattle.trial.proofs.RowVersions.{tells_begin}
use Rattle.trial.proofs.examples.versions.store.Store.begin.Goals as goal

pub returns-in-Ok-clause-tells : goal.returns-in-Ok-clause-tells
returns-in-Ok-clause-tells g c = λ log t. tells_begin _ _ _ _ _ log (ap (λ p. p.1) c.in-Ok.ensures.inserts.2.answers) t
