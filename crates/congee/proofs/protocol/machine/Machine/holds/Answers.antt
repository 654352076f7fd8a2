use Rattle.congee.proofs.lemmas.protocol.Owners.{made_held}
use Rattle.congee.proofs.protocol.machine.Machine.holds.Goals as goal

pub returns : goal.returns
returns g c = λ i a h k kind given n s. made_held _ _ _ i a h k kind given n s
