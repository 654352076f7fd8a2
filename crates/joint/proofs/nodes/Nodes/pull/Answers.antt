use Rattle.std.proofs.Common.{◌≡◌, subst}
use Rattle.congee.specs.Heap.{Node, Holds}
use Rattle.joint.proofs.lemmas.nodes.NodesInvariant.{there_in, node_in, frame_in, value_in, pulled_in, kept_pulled}
use Rattle.joint.proofs.nodes.Nodes.pull.Goals as goal

pub take_out-slot-requires : goal.take_out-slot-requires
take_out-slot-requires g c = there_in _ _ c.self.view_is c.args.at.name c.requires.stands

pub pull-value-requires-clause-whole : goal.pull-value-requires-clause-whole
pull-value-requires-clause-whole g c = c.self.invariant.whole c.args.at.name c.take_out-slot.result c.take_out-slot.ensures.was

pub pull-value-requires-clause-holds : goal.pull-value-requires-clause-holds
pull-value-requires-clause-holds g c =
    let P : Node g.row.P.Denot → Type 0 = λ n. (v : g.row.P.Denot) × (n.children c.args.byte ≡ Holds v) in
    subst P (node_in _ _ c.self.view_is c.args.at.name c.take_out-slot.result c.take_out-slot.ensures.was) c.requires.holds

pub invariant_of-self : goal.invariant_of-self
invariant_of-self g c = kept_pulled _ _ c.self.view_is c.args.at.name c.cells.ensures.replaced _ _ _ _ c.take_out-slot.ensures.was c.take_out-slot.ensures.state c.put_back.ensures c.args.byte c.pull-value.result c.pull-value.ensures _ c.self.invariant

pub returns-clause-value : goal.returns-clause-value
returns-clause-value g c = value_in _ _ c.self.view_is c.args.at.name c.cells.ensures.replaced _ _ _ _ c.take_out-slot.ensures.was c.take_out-slot.ensures.state c.put_back.ensures c.args.byte c.pull-value.result c.pull-value.ensures

pub returns-clause-frame : goal.returns-clause-frame
returns-clause-frame g c = frame_in _ _ c.self.view_is c.args.at.name c.cells.ensures.replaced _ _ _ _ c.take_out-slot.ensures.was c.take_out-slot.ensures.state c.put_back.ensures

pub returns-clause-node : goal.returns-clause-node
returns-clause-node g c = pulled_in _ _ c.self.view_is c.args.at.name c.cells.ensures.replaced _ _ _ _ c.take_out-slot.ensures.was c.take_out-slot.ensures.state c.put_back.ensures c.args.byte c.pull-value.result c.pull-value.ensures
