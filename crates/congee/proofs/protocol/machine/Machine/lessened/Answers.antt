use Rattle.congee.proofs.lemmas.Lessen.{lessen_tree, lessen_map}
use Rattle.congee.proofs.protocol.machine.Machine.lessened.Goals as goal

pub returns-clause-tree : goal.returns-clause-tree
returns-clause-tree g c = λ a h a' h' x b p n d key v t k. lessen_tree a h a' h' x b p n d key v t k

pub returns-clause-map : goal.returns-clause-map
returns-clause-map g c = λ a h a' h' x b p n d key v t k. lessen_map a h a' h' x b p n d key v t k
