use Rattle.congee.proofs.lemmas.protocol.Owners.{get_set, set_apart}
use Rattle.congee.proofs.protocol.machine.Machine.exchanged.Goals as goal

pub returns-clause-either : goal.returns-clause-either
returns-clause-either g c = λ ms i j x y. get_set ms i j x y

pub returns-clause-others : goal.returns-clause-others
returns-clause-others g c = λ ms i j x y. set_apart ms i j x y
