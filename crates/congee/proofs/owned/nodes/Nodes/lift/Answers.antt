use Rattle.std.proofs.Common.{◌*◌, sym, subst, arith}
use Rattle.congee.specs.owned.Lifting.{GivesNode, GivesOnly}
use Rattle.congee.proofs.lemmas.owned.Moves.{stands_at}
use Rattle.congee.proofs.lemmas.owned.Raising.{inner_has_slot, leaf_above, leaf_begins, leaf_bytes, leaf_moves, leaf_room, lower_inner, lower_one, node_above, node_bytes, node_moves, upper_inner, upper_node, upper_stands}
use Rattle.congee.proofs.lemmas.owned.Unfolds.{fits_room}
use Rattle.congee.proofs.owned.nodes.Nodes.lift.Goals as goal

pub take_only-requires-clause-stands : goal.take_only-requires-clause-stands
take_only-requires-clause-stands g c = stands_at c.args.self.now c.args.at c.requires.lower c.requires.stood

pub take_only-requires-clause-inner : goal.take_only-requires-clause-inner
take_only-requires-clause-inner g c = lower_inner c.args.self.now c.args.above c.args.byte c.args.at c.requires

pub take_only-requires-clause-alone : goal.take_only-requires-clause-alone
take_only-requires-clause-alone g c = lower_one c.args.self.now c.args.above c.args.byte c.args.at c.requires

pub swap_node-requires-clause-stands : goal.swap_node-requires-clause-stands
swap_node-requires-clause-stands g c = upper_stands c.args.self.now c.args.above c.args.byte c.args.at c.requires c.take_only.new.self (node_above c.args.self.now c.args.above c.args.byte c.args.at c.requires c.take_only.new.self (257 * c.in-Node.slot) (subst (GivesOnly c.args.self.now c.take_only.new.self c.args.at c.requires.lower) c.in-Node.is (c.take_only.ensures.gives c.requires.lower c.requires.stood)))

pub swap_node-requires-clause-inner : goal.swap_node-requires-clause-inner
swap_node-requires-clause-inner g c = upper_inner c.args.self.now c.args.above c.args.byte c.args.at c.requires c.take_only.new.self (node_above c.args.self.now c.args.above c.args.byte c.args.at c.requires c.take_only.new.self (257 * c.in-Node.slot) (subst (GivesOnly c.args.self.now c.take_only.new.self c.args.at c.requires.lower) c.in-Node.is (c.take_only.ensures.gives c.requires.lower c.requires.stood)))

pub swap_node-requires-clause-present : goal.swap_node-requires-clause-present
swap_node-requires-clause-present g c = upper_node c.args.self.now c.args.above c.args.byte c.args.at c.requires c.take_only.new.self (node_above c.args.self.now c.args.above c.args.byte c.args.at c.requires c.take_only.new.self (257 * c.in-Node.slot) (subst (GivesOnly c.args.self.now c.take_only.new.self c.args.at c.requires.lower) c.in-Node.is (c.take_only.ensures.gives c.requires.lower c.requires.stood))) (inner_has_slot c.self.inside.slab c.args.self.now c.self.view_is c.args.at c.requires.lower c.requires.stood c.requires.inner_below)

pub swap_node-requires-clause-own : goal.swap_node-requires-clause-own
swap_node-requires-clause-own g c = let e = c.of-child.ensures in omega (arith, e)

pub returns-in-Node : goal.returns-in-Node
returns-in-Node g c = record {
  lifts = λ r. node_moves c.args.self.now c.args.above c.args.byte c.args.at r c.take_only.new.self c.of-child.result (subst (GivesNode c.args.self.now c.take_only.new.self c.args.at r.lower) (sym c.of-child.ensures) (subst (GivesOnly c.args.self.now c.take_only.new.self c.args.at r.lower) c.in-Node.is (c.take_only.ensures.gives r.lower r.stood))) c.swap_node.new.self c.swap_node.ensures.swaps;
  bytes = λ r. node_bytes c.args.self.now c.args.above c.args.byte c.args.at r c.take_only.new.self c.of-child.result (subst (GivesNode c.args.self.now c.take_only.new.self c.args.at r.lower) (sym c.of-child.ensures) (subst (GivesOnly c.args.self.now c.take_only.new.self c.args.at r.lower) c.in-Node.is (c.take_only.ensures.gives r.lower r.stood))) c.swap_node.new.self c.swap_node.ensures.swaps;
}

pub swap_leaf-requires-clause-stands : goal.swap_leaf-requires-clause-stands
swap_leaf-requires-clause-stands g c = upper_stands c.args.self.now c.args.above c.args.byte c.args.at c.requires c.take_only.new.self (leaf_above c.args.self.now c.args.above c.args.byte c.args.at c.requires (inner_has_slot c.self.inside.slab c.args.self.now c.self.view_is c.args.at c.requires.lower c.requires.stood c.requires.inner_below) c.take_only.new.self c.in-Value.lone (subst (GivesOnly c.args.self.now c.take_only.new.self c.args.at c.requires.lower) c.in-Value.is (c.take_only.ensures.gives c.requires.lower c.requires.stood)))

pub swap_leaf-requires-clause-inner : goal.swap_leaf-requires-clause-inner
swap_leaf-requires-clause-inner g c = upper_inner c.args.self.now c.args.above c.args.byte c.args.at c.requires c.take_only.new.self (leaf_above c.args.self.now c.args.above c.args.byte c.args.at c.requires (inner_has_slot c.self.inside.slab c.args.self.now c.self.view_is c.args.at c.requires.lower c.requires.stood c.requires.inner_below) c.take_only.new.self c.in-Value.lone (subst (GivesOnly c.args.self.now c.take_only.new.self c.args.at c.requires.lower) c.in-Value.is (c.take_only.ensures.gives c.requires.lower c.requires.stood)))

pub swap_leaf-requires-clause-present : goal.swap_leaf-requires-clause-present
swap_leaf-requires-clause-present g c = upper_node c.args.self.now c.args.above c.args.byte c.args.at c.requires c.take_only.new.self (leaf_above c.args.self.now c.args.above c.args.byte c.args.at c.requires (inner_has_slot c.self.inside.slab c.args.self.now c.self.view_is c.args.at c.requires.lower c.requires.stood c.requires.inner_below) c.take_only.new.self c.in-Value.lone (subst (GivesOnly c.args.self.now c.take_only.new.self c.args.at c.requires.lower) c.in-Value.is (c.take_only.ensures.gives c.requires.lower c.requires.stood))) (inner_has_slot c.self.inside.slab c.args.self.now c.self.view_is c.args.at c.requires.lower c.requires.stood c.requires.inner_below)

pub swap_leaf-requires-clause-spare : goal.swap_leaf-requires-clause-spare
swap_leaf-requires-clause-spare g c = leaf_room c.args.self.now c.args.above c.args.byte c.args.at c.requires (inner_has_slot c.self.inside.slab c.args.self.now c.self.view_is c.args.at c.requires.lower c.requires.stood c.requires.inner_below) c.take_only.new.self c.in-Value.lone (subst (GivesOnly c.args.self.now c.take_only.new.self c.args.at c.requires.lower) c.in-Value.is (c.take_only.ensures.gives c.requires.lower c.requires.stood)) c.take_only.ensures.capacity (fits_room c.self.inside.slab c.args.self.now c.self.view_is c.self.inside.inline c.self.invariant)

pub swap_leaf-requires-clause-begins : goal.swap_leaf-requires-clause-begins
swap_leaf-requires-clause-begins g c = leaf_begins c.args.self.now c.args.above c.args.byte c.args.at c.requires (inner_has_slot c.self.inside.slab c.args.self.now c.self.view_is c.args.at c.requires.lower c.requires.stood c.requires.inner_below) c.take_only.new.self c.in-Value.lone (subst (GivesOnly c.args.self.now c.take_only.new.self c.args.at c.requires.lower) c.in-Value.is (c.take_only.ensures.gives c.requires.lower c.requires.stood))

pub returns-in-Value : goal.returns-in-Value
returns-in-Value g c = record {
  lifts = λ r. leaf_moves c.args.self.now c.args.above c.args.byte c.args.at r (inner_has_slot c.self.inside.slab c.args.self.now c.self.view_is c.args.at r.lower r.stood r.inner_below) c.take_only.new.self c.in-Value.lone (subst (GivesOnly c.args.self.now c.take_only.new.self c.args.at r.lower) c.in-Value.is (c.take_only.ensures.gives r.lower r.stood)) c.swap_leaf.new.self c.swap_leaf.ensures.hangs;
  bytes = λ r. leaf_bytes c.args.self.now c.args.above c.args.byte c.args.at r (inner_has_slot c.self.inside.slab c.args.self.now c.self.view_is c.args.at r.lower r.stood r.inner_below) c.take_only.new.self c.in-Value.lone (subst (GivesOnly c.args.self.now c.take_only.new.self c.args.at r.lower) c.in-Value.is (c.take_only.ensures.gives r.lower r.stood)) c.swap_leaf.new.self c.swap_leaf.ensures.hangs;
}

pub unreachable-requires : goal.unreachable-requires
unreachable-requires g c = (subst (GivesOnly c.args.self.now c.take_only.new.self c.args.at c.requires.lower) c.in-Blank.is (c.take_only.ensures.gives c.requires.lower c.requires.stood))
