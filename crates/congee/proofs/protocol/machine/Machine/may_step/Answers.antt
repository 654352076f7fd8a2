use Rattle.congee.proofs.lemmas.protocol.ManyCalls.{may_step}
use Rattle.congee.proofs.protocol.machine.Machine.may_step.Goals as goal

pub returns : goal.returns
returns g c = λ h ms i m. may_step _ _ _ h ms i m
