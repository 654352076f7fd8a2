use Rattle.congee.proofs.lemmas.Lift.{lift_tree, lift_map}
use Rattle.congee.proofs.protocol.machine.Machine.lifted.Goals as goal

pub returns-clause-tree : goal.returns-clause-tree
returns-clause-tree g c = λ a h a' h' n b m q o t k. lift_tree a h a' h' n b m q o t k

pub returns-clause-map : goal.returns-clause-map
returns-clause-map g c = λ a h a' h' n b m q o t k. lift_map a h a' h' n b m q o t k
