use Rattle.crossbeam_epoch.proofs.lemmas.world.Chains.{none_seen, some_seen}
use Rattle.crossbeam_epoch.proofs.chain.Chain.is_empty.Goals as goal

pub returns-in-Some : goal.returns-in-Some
returns-in-Some g c = some_seen _ c.in-Some.ensures.0

pub returns-in-None : goal.returns-in-None
returns-in-None g c = none_seen _ c.in-None.ensures
