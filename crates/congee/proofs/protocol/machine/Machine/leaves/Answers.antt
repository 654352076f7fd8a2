use Rattle.congee.proofs.lemmas.protocol.Leaving.{step_leaves}
use Rattle.congee.proofs.protocol.machine.Machine.leaves.Goals as goal

pub returns : goal.returns
returns g c = λ s i a h h' ms m m' d fail answer. step_leaves _ _ _ _ _ i a h h' ms m m' d fail answer
