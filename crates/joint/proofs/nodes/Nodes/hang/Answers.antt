use Rattle.std.proofs.Common.{subst}
use Rattle.congee.specs.protocol.Events.{hung, MayChange}
use Rattle.joint.specs.nodes.View.{id_number}
use Rattle.joint.proofs.lemmas.nodes.NodesInvariant.{there_in, node_in, frame_in, changed_in, kept_changed}
use Rattle.joint.proofs.nodes.Nodes.hang.Goals as goal

pub take_out-slot-requires : goal.take_out-slot-requires
take_out-slot-requires g c = there_in _ _ c.self.view_is c.args.at.name c.requires.stands

pub hang-requires-clause-whole : goal.hang-requires-clause-whole
hang-requires-clause-whole g c = c.self.invariant.whole c.args.at.name c.take_out-slot.result c.take_out-slot.ensures.was

pub hang-requires-clause-room : goal.hang-requires-clause-room
hang-requires-clause-room g c = subst (λ n. MayChange n c.args.byte (hung id_number c.args.child)) (node_in _ _ c.self.view_is c.args.at.name c.take_out-slot.result c.take_out-slot.ensures.was) c.requires.room

pub invariant_of-self : goal.invariant_of-self
invariant_of-self g c = kept_changed _ _ c.self.view_is c.args.at.name c.cells.ensures.replaced _ _ _ _ c.take_out-slot.ensures.was c.take_out-slot.ensures.state c.put_back.ensures c.args.byte c.args.child c.hang.ensures _ c.self.invariant

pub returns-clause-frame : goal.returns-clause-frame
returns-clause-frame g c = frame_in _ _ c.self.view_is c.args.at.name c.cells.ensures.replaced _ _ _ _ c.take_out-slot.ensures.was c.take_out-slot.ensures.state c.put_back.ensures

pub returns-clause-node : goal.returns-clause-node
returns-clause-node g c = changed_in _ _ c.self.view_is c.args.at.name c.cells.ensures.replaced _ _ _ _ c.take_out-slot.ensures.was c.take_out-slot.ensures.state c.put_back.ensures c.args.byte c.args.child c.hang.ensures
