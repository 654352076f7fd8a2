use Rattle.std.proofs.Common.{refl, ◌∙◌, ap}
use Rattle.joint.specs.nodes.View.{worded}
use Rattle.joint.proofs.lemmas.nodes.NodesInvariant.{there_in, node_in, frame_in, same_in, kept_in}
use Rattle.joint.proofs.nodes.Nodes.set_word.Goals as goal

pub take_out-slot-requires : goal.take_out-slot-requires
take_out-slot-requires g c = there_in _ _ c.self.view_is c.args.at.name c.requires.stands

pub invariant_of-self : goal.invariant_of-self
invariant_of-self g c =
    kept_in _ _ c.self.view_is c.args.at.name c.cells.ensures.replaced _ _ _ _ c.take_out-slot.ensures.was c.take_out-slot.ensures.state c.put_back.ensures _ c.self.invariant refl
    (c.requires.mark ∙ ap (λ n. n.retired) (node_in _ _ c.self.view_is c.args.at.name c.take_out-slot.result c.take_out-slot.ensures.was)) (c.self.invariant.whole c.args.at.name c.take_out-slot.result c.take_out-slot.ensures.was)

pub returns-clause-frame : goal.returns-clause-frame
returns-clause-frame g c = frame_in _ _ c.self.view_is c.args.at.name c.cells.ensures.replaced _ _ _ _ c.take_out-slot.ensures.was c.take_out-slot.ensures.state c.put_back.ensures

pub returns-clause-node : goal.returns-clause-node
returns-clause-node g c = same_in _ _ c.self.view_is c.args.at.name c.cells.ensures.replaced _ _ _ _ c.take_out-slot.ensures.was c.take_out-slot.ensures.state c.put_back.ensures (worded c.args.word) refl
