use Rattle.std.proofs.Common.{rules, ◌≡◌, length, arith, refl, sym, subst, IsSome}
use Rattle.slab.specs.Slab.{get}
use Rattle.congee.specs.owned.Arena.{heap_of}
use Rattle.congee.specs.owned.Sizes.{bytes_at}
use Rattle.congee.specs.owned.Wanted.{size_by}
use Rattle.congee.proofs.lemmas.owned.Sizes.{bytes_update}
use Rattle.congee.proofs.lemmas.owned.Moves.{leaf_dropped, leaf_stands, up_stands}
use Rattle.congee.proofs.lemmas.owned.Hangings.{own_of, inline_of, above_inner, child_inline, lost, held_value, up_inner, up_node, left_leaf}
use Rattle.congee.proofs.lemmas.owned.Removing.{dropped_child, lost_child}
use Rattle.congee.proofs.lemmas.owned.Wanting.{dropped_size}
use Rattle.congee.proofs.owned.arena.Arena.drop_leaf.Goals as goal

pub unhang_leaf-requires-clause-inner : goal.unhang_leaf-requires-clause-inner
unhang_leaf-requires-clause-inner g c = above_inner c.args.self.now.nodes c.requires.tree c.args.key.now c.args.above c.args.at c.requires.hangs.way.stands c.requires.hangs.child

pub unhang_leaf-requires-clause-present : goal.unhang_leaf-requires-clause-present
unhang_leaf-requires-clause-present g c = child_inline c.args.self.now.nodes c.requires.tree c.args.key.now c.args.above c.args.at c.byte_at-up.result c.requires.hangs.way.stands c.requires.hangs.child (inline_of c.is_inline.result c.args.at c.is_inline.ensures (search rules)) c.byte_at-up.ensures

pub returns-then-is_inline : goal.returns-then-is_inline
returns-then-is_inline g c =
    let len : length c.args.key.now ≡ 8 = search rules in
    let r = lost c.args.self.now.nodes c.unhang_leaf.new.self c.args.key.now c.args.above c.args.at c.byte_at-up.result c.unhang_leaf.result len c.requires.tree c.requires.way c.requires.held c.requires.hangs c.byte_at-up.ensures c.unhang_leaf.ensures.takes in
    record {
      drops = record { tree = r.0.0; change = r.0.1; bytes = r.1; allocator = refl };
      above = lost_child c.args.self.now.nodes c.unhang_leaf.new.self c.args.key.now c.args.above c.args.at c.byte_at-up.result c.unhang_leaf.result c.requires.tree c.requires.hangs c.byte_at-up.ensures c.unhang_leaf.ensures.takes;
    }

pub take_value-value-requires-clause-present : goal.take_value-value-requires-clause-present
take_value-value-requires-clause-present g c = held_value c.args.self.now.nodes c.args.key.now c.args.at c.byte_at-byte.result c.requires.held c.byte_at-byte.ensures

pub byte_at-up-requires-2 : goal.byte_at-up-requires-2
byte_at-up-requires-2 g c = subst IsSome (sym (up_stands c.args.self.now.nodes c.take_value-value.new.self c.args.key.now c.args.above c.args.at c.byte_at-byte.result c.requires.tree c.requires.way c.requires.hangs c.take_value-value.ensures.takes)) c.requires.hangs.way.stands

pub unhang_node-requires-clause-stands : goal.unhang_node-requires-clause-stands
unhang_node-requires-clause-stands g c = subst IsSome (sym (up_stands c.args.self.now.nodes c.take_value-value.new.self c.args.key.now c.args.above c.args.at c.byte_at-byte.result c.requires.tree c.requires.way c.requires.hangs c.take_value-value.ensures.takes)) c.requires.hangs.way.stands

pub unhang_node-requires-clause-inner : goal.unhang_node-requires-clause-inner
unhang_node-requires-clause-inner g c = up_inner c.args.self.now.nodes c.take_value-value.new.self c.requires.tree c.args.key.now c.args.above c.args.at
    (up_stands c.args.self.now.nodes c.take_value-value.new.self c.args.key.now c.args.above c.args.at c.byte_at-byte.result c.requires.tree c.requires.way c.requires.hangs c.take_value-value.ensures.takes) c.requires.hangs

pub unhang_node-requires-clause-present : goal.unhang_node-requires-clause-present
unhang_node-requires-clause-present g c = up_node c.args.self.now.nodes c.take_value-value.new.self c.requires.tree c.args.key.now c.args.above c.args.at
    (up_stands c.args.self.now.nodes c.take_value-value.new.self c.args.key.now c.args.above c.args.at c.byte_at-byte.result c.requires.tree c.requires.way c.requires.hangs c.take_value-value.ensures.takes) c.requires.hangs
    c.byte_at-up-2.result (own_of c.is_inline.result c.args.at c.is_inline.ensures (search rules)) c.byte_at-up-2.ensures

pub remove-requires-clause-stands : goal.remove-requires-clause-stands
remove-requires-clause-stands g c = leaf_stands c.args.self.now.nodes c.take_value-value.new.self c.unhang_node.new.self c.args.key.now c.args.above c.args.at c.byte_at-byte.result c.byte_at-up-2.result c.requires.tree c.requires.way c.requires.hangs c.take_value-value.ensures.takes c.unhang_node.ensures.takes

pub remove-requires-clause-leaf : goal.remove-requires-clause-leaf
remove-requires-clause-leaf g c = left_leaf c.args.self.now.nodes c.take_value-value.new.self c.unhang_node.new.self c.args.key.now c.args.above c.args.at c.byte_at-byte.result c.byte_at-up-2.result c.requires.tree c.requires.way c.requires.held c.requires.hangs c.take_value-value.ensures.takes c.unhang_node.ensures.takes

pub returns : goal.returns
returns g c =
    let len : length c.args.key.now ≡ 8 = search rules in
    let dropped = leaf_dropped c.args.self.now.nodes c.take_value-value.new.self c.unhang_node.new.self c.remove.new.self c.args.key.now c.args.above c.args.at c.byte_at-byte.result c.byte_at-up-2.result c.take_value-value.result len c.requires.tree c.requires.way c.requires.held c.requires.hangs c.requires.last c.byte_at-byte.ensures c.take_value-value.ensures.was c.take_value-value.ensures.takes c.byte_at-up-2.ensures c.unhang_node.ensures.takes c.remove.ensures.gone in
    let gone = bytes_update c.unhang_node.new.self c.remove.new.self c.args.at _ c.remove.ensures.gone in
    let capacity : bytes_at (get c.unhang_node.new.self c.args.at) ≡ size_by (heap_of c.args.self.now.nodes c.args.at).capacity =
    dropped_size c.args.self.now.nodes c.take_value-value.new.self c.unhang_node.new.self c.args.key.now c.args.above c.args.at c.byte_at-byte.result c.byte_at-up-2.result c.requires.tree c.requires.way c.requires.hangs c.take_value-value.ensures.takes c.unhang_node.ensures.takes in
    record {
      drops = record { tree = dropped.0.0; change = dropped.0.1; bytes = omega (arith, dropped.1, gone, capacity); allocator = refl };
      above = dropped_child c.args.self.now.nodes c.take_value-value.new.self c.unhang_node.new.self c.remove.new.self c.args.key.now c.args.above c.args.at c.byte_at-byte.result c.byte_at-up-2.result c.requires.tree c.requires.way c.requires.hangs c.take_value-value.ensures.takes c.byte_at-up-2.ensures c.unhang_node.ensures.takes c.remove.ensures.gone;
    }
