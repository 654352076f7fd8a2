use Rattle.congee.proofs.lemmas.Shrink.{shrink_tree, shrink_map}
use Rattle.congee.proofs.protocol.machine.Machine.shrunk.Goals as goal

pub returns-clause-tree : goal.returns-clause-tree
returns-clause-tree g c = λ a h a' h' p b n d key v t k. shrink_tree a h a' h' p b n d key v t k

pub returns-clause-map : goal.returns-clause-map
returns-clause-map g c = λ a h a' h' p b n d key v t k. shrink_map a h a' h' p b n d key v t k
