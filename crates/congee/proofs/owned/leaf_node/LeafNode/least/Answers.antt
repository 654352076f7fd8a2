use Rattle.std.proofs.Common.{refl}
use Rattle.congee.specs.owned.Values.{node_with}
use Rattle.congee.proofs.lemmas.owned.Keeping.{bare_by, bare_held}
use Rattle.congee.proofs.owned.leaf_node.LeafNode.least.Goals as goal

pub invariant_of-result : goal.invariant_of-result
invariant_of-result g c = bare_held g.P.Stored.value_in c.least.result c.least.ensures.kept

pub returns-clause-children : goal.returns-clause-children
returns-clause-children g c = bare_by g.P.Stored.value_in c.new.result c.least.result (node_with g.P.Stored.value_in c.new.result c.least.result) refl c.least.ensures.kept
