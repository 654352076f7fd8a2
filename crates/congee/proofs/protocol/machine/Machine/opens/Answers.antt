use Rattle.congee.proofs.lemmas.protocol.Renewing.{opened_idle}
use Rattle.congee.proofs.protocol.machine.Machine.opens.Goals as goal

pub returns : goal.returns
returns g c = λ h ms. opened_idle _ _ _ h ms
