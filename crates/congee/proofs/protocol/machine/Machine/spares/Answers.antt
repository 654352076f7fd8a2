use Rattle.congee.proofs.lemmas.protocol.Destroys.{spares}
use Rattle.congee.proofs.lemmas.protocol.Renewing.{spared_within}
use Rattle.congee.proofs.protocol.machine.Machine.spares.Goals as goal

pub returns-clause-spared : goal.returns-clause-spared
returns-clause-spared g c = λ h ms. spares _ _ _ h ms

pub returns-clause-within : goal.returns-clause-within
returns-clause-within g c = λ most h ms h'. spared_within _ most h ms h'
