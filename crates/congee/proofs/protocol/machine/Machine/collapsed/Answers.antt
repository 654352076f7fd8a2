use Rattle.congee.proofs.lemmas.Collapse.{collapse_tree, collapse_map}
use Rattle.congee.proofs.protocol.machine.Machine.collapsed.Goals as goal

pub returns-clause-tree : goal.returns-clause-tree
returns-clause-tree g c = λ a h a' h' x b p n q o key v t k. collapse_tree a h a' h' x b p n q o key v t k

pub returns-clause-map : goal.returns-clause-map
returns-clause-map g c = λ a h a' h' x b p n q o key v t k. collapse_map a h a' h' x b p n q o key v t k
