use Rattle.std.proofs.Common.{subst}
use Rattle.congee.specs.Heap.{Node}
use Rattle.congee.specs.protocol.Events.{HoldsNodes}
use Rattle.joint.proofs.nodes.store.NodesStoreId.other.Goals as goal

pub other-requires-clause-nodes : goal.other-requires-clause-nodes
other-requires-clause-nodes g c = let P : Node g.row.P.Denot → Type 0 = λ y. HoldsNodes y in subst P c.slot.ensures.node c.requires.nodes
