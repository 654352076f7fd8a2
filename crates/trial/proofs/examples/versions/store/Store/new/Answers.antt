use Rattle.trial.proofs.RowVersions.{none_bare, tells_bare}
use Rattle.trial.proofs.examples.versions.store.Store.new.Goals as goal

pub invariant_of-result : goal.invariant_of-result
invariant_of-result g c = record { free = λ row stamp a b. none_bare _ _ c.in_ok-versions.ensures.bare.pairs }

pub returns-clause-tells : goal.returns-clause-tells
returns-clause-tells g c = tells_bare _ _ _ c.in_ok-versions.ensures.bare.pairs
