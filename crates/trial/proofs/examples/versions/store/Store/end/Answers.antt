use Rattle.trial.proofs.RowVersions.{tells_end}
use Rattle.trial.proofs.examples.versions.store.Store.end.Goals as goal

pub returns-clause-tells : goal.returns-clause-tells
returns-clause-tells g c = λ log t. tells_end _ _ _ _ _ log c.count_off.ensures t
