use Rattle.congee.proofs.lemmas.protocol.Renewing.{begun_again}
use Rattle.congee.proofs.protocol.machine.Machine.begins.Goals as goal

pub returns : goal.returns
returns g c = λ h ms i old new. begun_again _ _ _ h ms i old new
