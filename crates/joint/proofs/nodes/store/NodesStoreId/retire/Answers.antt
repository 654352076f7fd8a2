use Rattle.std.proofs.Common.{true, refl, ap, sym, ◌∙◌}
use Rattle.joint.proofs.lemmas.nodes.Accounts.{standing_inside, kept_marked, count_few, bytes_small}
use Rattle.joint.proofs.lemmas.nodes.NodesInvariant.{there_in, node_in, altered_in, orderly_in, frame_in, same_in}
use Rattle.joint.proofs.nodes.store.NodesStoreId.retire.Goals as goal

pub mark-requires-clause-inside : goal.mark-requires-clause-inside
mark-requires-clause-inside g c = standing_inside _ _ c.self.invariant c.args.node.name (there_in _ _ c.self.view_is c.args.node.name c.requires.stands)

pub mark-requires-clause-few : goal.mark-requires-clause-few
mark-requires-clause-few g c = count_few _ _ c.self.invariant

pub mark-requires-clause-small : goal.mark-requires-clause-small
mark-requires-clause-small g c = bytes_small _ _ c.self.invariant

pub take_out-slot-requires : goal.take_out-slot-requires
take_out-slot-requires g c = there_in _ _ c.self.view_is c.args.node.name c.requires.stands

pub invariant_of-self : goal.invariant_of-self
invariant_of-self g c =
    kept_marked _ _ _ c.self.invariant
    (orderly_in _ _ c.self.view_is c.args.node.name c.cells.ensures.replaced _ _ _ _ c.take_out-slot.ensures.was c.take_out-slot.ensures.state c.put_back.ensures c.self.invariant.orderly)
    c.args.node.name c.take_out-slot.result _
    (altered_in _ _ c.self.view_is c.args.node.name c.cells.ensures.replaced _ _ _ _ c.take_out-slot.ensures.was c.take_out-slot.ensures.state c.put_back.ensures)
    c.mark.new.self refl refl refl
    (sym (ap (λ n. n.retired) (node_in _ _ c.self.view_is c.args.node.name c.take_out-slot.result c.take_out-slot.ensures.was)) ∙ c.requires.once)
    c.mark.ensures.cell_marks c.mark.ensures.room c.mark.ensures.standing c.mark.ensures.waiting c.mark.ensures.bytes

pub returns-clause-rest : goal.returns-clause-rest
returns-clause-rest g c = frame_in _ _ c.self.view_is c.args.node.name c.cells.ensures.replaced _ _ _ _ c.take_out-slot.ensures.was c.take_out-slot.ensures.state c.put_back.ensures

pub returns-clause-gives : goal.returns-clause-gives
returns-clause-gives g c = same_in _ _ c.self.view_is c.args.node.name c.cells.ensures.replaced _ _ _ _ c.take_out-slot.ensures.was c.take_out-slot.ensures.state c.put_back.ensures (λ n. record n { retired = true }) refl
