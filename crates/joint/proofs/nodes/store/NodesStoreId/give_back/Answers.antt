use Rattle.std.proofs.Common.{refl, arith}
use Rattle.joint.proofs.lemmas.nodes.Accounts.{standing_inside, standing_some, waits_some, bytes_some, charge_some, kept_emptied, gone_node}
use Rattle.joint.proofs.lemmas.nodes.NodesInvariant.{there_in, orderly_stored}
use Rattle.joint.proofs.nodes.store.NodesStoreId.give_back.Goals as goal

pub take_away-requires : goal.take_away-requires
take_away-requires g c = there_in _ _ c.self.view_is c.args.node.name c.requires

pub take_off-size-requires-clause-inside : goal.take_off-size-requires-clause-inside
take_off-size-requires-clause-inside g c = standing_inside _ _ c.self.invariant c.args.node.name (there_in _ _ c.self.view_is c.args.node.name c.requires)

pub take_off-size-requires-clause-stands : goal.take_off-size-requires-clause-stands
take_off-size-requires-clause-stands g c = standing_some _ _ c.self.invariant c.args.node.name _ _ c.take_away.ensures.slot.1

pub take_off-size-requires-clause-some : goal.take_off-size-requires-clause-some
take_off-size-requires-clause-some g c = waits_some _ _ c.self.invariant c.args.node.name _ _ c.take_away.ensures.slot.1

pub take_off-size-requires-clause-enough : goal.take_off-size-requires-clause-enough
take_off-size-requires-clause-enough g c = bytes_some _ _ c.self.invariant c.args.node.name _ _ c.take_away.ensures.slot.1

pub deallocate-requires : goal.deallocate-requires
deallocate-requires g c = let some = charge_some _ _ c.self.invariant c.args.node.name _ _ c.take_away.ensures.slot.1 in omega (arith, some, c.take_off-size.ensures.size)

pub invariant_of-self : goal.invariant_of-self
invariant_of-self g c =
    kept_emptied _ _ _ c.self.invariant (orderly_stored c.self.inside.collector c.take_away.new.collector c.take_away.ensures.beside c.self.invariant.orderly) c.args.node.name c.take_away.ensures.slot.0 c.take_away.ensures.slot.1 c.take_off-size.new.self c.take_off-size.ensures.standing
    (omega (arith, c.deallocate.ensures.charged, c.take_off-size.ensures.size)) refl c.take_off-size.ensures.cell_marks c.take_off-size.ensures.waiting c.take_off-size.ensures.bytes

pub returns-clause-gives : goal.returns-clause-gives
returns-clause-gives g c = gone_node _ _ c.self.view_is c.args.node.name c.take_away.ensures.slot.0 c.take_away.new.collector.store c.take_away.ensures.slot.1
