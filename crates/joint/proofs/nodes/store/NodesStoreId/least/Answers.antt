use Rattle.std.proofs.Common.{subst, sym, ◌∙◌}
use Rattle.congee.specs.forms.RoomLemmas.{any_node_fits}
use Rattle.congee.specs.protocol.ScanEvents.{LeastGives}
use Rattle.joint.specs.contracts.id.Id.{the_row}
use Rattle.joint.specs.nodes.View.{id_number}
use Rattle.joint.specs.nodes.RoomLemmas.{small_id}
use Rattle.joint.proofs.nodes.store.NodesStoreId.least.Goals as goal

pub least-requires : goal.least-requires
least-requires g c = (any_node_fits the_row g.row.P small_id g.met.P.Small.small, c.node.ensures.solid)

pub returns-clause-gives : goal.returns-clause-gives
returns-clause-gives g c = subst (λ n. LeastGives id_number g.P.Payload.always_copies n c.args.at.version c.args.from c.args.last c.least.result) (c.node.ensures.shape ∙ sym c.slot-slot.ensures.node) c.least.ensures.gives
