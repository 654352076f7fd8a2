use Rattle.std.proofs.Common.{rules, ◌≡◌, refl, ap, ◌∙◌, arith, length, [], None}
use Rattle.congee.specs.Heap.{fits, child_for}
use Rattle.congee.specs.owned.Arena.{heap_of}
use Rattle.congee.specs.owned.Wanted.{room_for}
use Rattle.congee.proofs.lemmas.owned.Moves.{node_at}
use Rattle.congee.proofs.lemmas.owned.Hangings.{own_of, inline_of, unfolded, above_inner, child_inline, one_room, never_denied, adds_in, never_in}
use Rattle.congee.proofs.lemmas.owned.Renaming.{adds_renamed}
use Rattle.congee.proofs.owned.arena.Arena.add_value.Goals as goal

pub unfold-leaf-requires-clause-inner : goal.unfold-leaf-requires-clause-inner
unfold-leaf-requires-clause-inner g c = above_inner c.args.self.now.nodes c.requires.tree c.args.key.now c.args.above c.args.at (c.requires.hangs (inline_of c.is_inline.result c.args.at c.is_inline.ensures (search rules))).way.stands (c.requires.hangs (inline_of c.is_inline.result c.args.at c.is_inline.ensures (search rules))).child

pub unfold-leaf-requires-clause-present : goal.unfold-leaf-requires-clause-present
unfold-leaf-requires-clause-present g c = child_inline c.args.self.now.nodes c.requires.tree c.args.key.now c.args.above c.args.at c.byte_at-up.result (c.requires.hangs (inline_of c.is_inline.result c.args.at c.is_inline.ensures (search rules))).way.stands (c.requires.hangs (inline_of c.is_inline.result c.args.at c.is_inline.ensures (search rules))).child (inline_of c.is_inline.result c.args.at c.is_inline.ensures (search rules)) c.byte_at-up.ensures

pub add_beside-requires-clause-tree : goal.add_beside-requires-clause-tree
add_beside-requires-clause-tree g c = (unfolded c.args.self.now.nodes c.unfold-leaf.new.self c.args.key.now c.args.above c.args.at c.byte_at-up.result c.unfold-leaf.result c.requires.tree (c.requires.hangs (inline_of c.is_inline.result c.args.at c.is_inline.ensures (search rules))).way (c.requires.hangs (inline_of c.is_inline.result c.args.at c.is_inline.ensures (search rules))).child c.byte_at-up.ensures c.unfold-leaf.ensures.renames).renamed.tree

pub add_beside-requires-clause-way : goal.add_beside-requires-clause-way
add_beside-requires-clause-way g c =
    let u = unfolded c.args.self.now.nodes c.unfold-leaf.new.self c.args.key.now c.args.above c.args.at c.byte_at-up.result c.unfold-leaf.result c.requires.tree (c.requires.hangs (inline_of c.is_inline.result c.args.at c.is_inline.ensures (search rules))).way (c.requires.hangs (inline_of c.is_inline.result c.args.at c.is_inline.ensures (search rules))).child c.byte_at-up.ensures c.unfold-leaf.ensures.renames in
    record { stands = u.stands; fitted = ap (λ n. fits n.prefix c.args.key.now) u.heap ∙ c.requires.way.fitted }

pub add_beside-requires-clause-free : goal.add_beside-requires-clause-free
add_beside-requires-clause-free g c =
    let u = unfolded c.args.self.now.nodes c.unfold-leaf.new.self c.args.key.now c.args.above c.args.at c.byte_at-up.result c.unfold-leaf.result c.requires.tree (c.requires.hangs (inline_of c.is_inline.result c.args.at c.is_inline.ensures (search rules))).way (c.requires.hangs (inline_of c.is_inline.result c.args.at c.is_inline.ensures (search rules))).child c.byte_at-up.ensures c.unfold-leaf.ensures.renames in
    ap (λ n. child_for n c.args.key.now) u.heap ∙ c.requires.free

pub add_beside-requires-clause-leaf : goal.add_beside-requires-clause-leaf
add_beside-requires-clause-leaf g c =
    let u = unfolded c.args.self.now.nodes c.unfold-leaf.new.self c.args.key.now c.args.above c.args.at c.byte_at-up.result c.unfold-leaf.result c.requires.tree (c.requires.hangs (inline_of c.is_inline.result c.args.at c.is_inline.ensures (search rules))).way (c.requires.hangs (inline_of c.is_inline.result c.args.at c.is_inline.ensures (search rules))).child c.byte_at-up.ensures c.unfold-leaf.ensures.renames in
    ap (λ n. length n.prefix) u.heap ∙ c.requires.leaf

pub add_beside-requires-clause-covered : goal.add_beside-requires-clause-covered
add_beside-requires-clause-covered g c =
    let u = unfolded c.args.self.now.nodes c.unfold-leaf.new.self c.args.key.now c.args.above c.args.at c.byte_at-up.result c.unfold-leaf.result c.requires.tree (c.requires.hangs (inline_of c.is_inline.result c.args.at c.is_inline.ensures (search rules))).way (c.requires.hangs (inline_of c.is_inline.result c.args.at c.is_inline.ensures (search rules))).child c.byte_at-up.ensures c.unfold-leaf.ensures.renames in
    omega (arith, u.renamed.bytes, c.requires.covered)

pub returns-then-is_inline-clause-adds : goal.returns-then-is_inline-clause-adds
returns-then-is_inline-clause-adds g c =
    let u = unfolded c.args.self.now.nodes c.unfold-leaf.new.self c.args.key.now c.args.above c.args.at c.byte_at-up.result c.unfold-leaf.result c.requires.tree (c.requires.hangs (inline_of c.is_inline.result c.args.at c.is_inline.ensures (search rules))).way (c.requires.hangs (inline_of c.is_inline.result c.args.at c.is_inline.ensures (search rules))).child c.byte_at-up.ensures c.unfold-leaf.ensures.renames in
    rw (← u.heap) (adds_in c.add_beside.result (λ a. adds_renamed g.A.Allocator.charged_of g.A.Allocator.limit_of c.args.self.now (record { nodes = c.unfold-leaf.new.self; allocator = c.args.self.now.allocator; pairs = c.args.self.now.pairs }) c.add_beside.new.self c.args.key.now u.renamed refl None c.args.value _ a) c.add_beside.ensures.adds)

pub returns-then-is_inline-clause-refused : goal.returns-then-is_inline-clause-refused
returns-then-is_inline-clause-refused g c =
    let u = unfolded c.args.self.now.nodes c.unfold-leaf.new.self c.args.key.now c.args.above c.args.at c.byte_at-up.result c.unfold-leaf.result c.requires.tree (c.requires.hangs (inline_of c.is_inline.result c.args.at c.is_inline.ensures (search rules))).way (c.requires.hangs (inline_of c.is_inline.result c.args.at c.is_inline.ensures (search rules))).child c.byte_at-up.ensures c.unfold-leaf.ensures.renames in
    let n = node_at c.unfold-leaf.new.self c.unfold-leaf.result u.stands in
    let room : room_for (heap_of c.unfold-leaf.new.self c.unfold-leaf.result) ≡ [] = one_room c.unfold-leaf.new.self c.unfold-leaf.result n.0 n.1 (c.unfold-leaf.ensures.lone n.0 n.1) in
    never_in _ _ c.add_beside.result (λ e d. never_denied g.A.Allocator.charged_of g.A.Allocator.limit_of (record { nodes = c.unfold-leaf.new.self; allocator = c.args.self.now.allocator; pairs = c.args.self.now.pairs }) c.add_beside.new.self c.args.key.now c.args.value _ e room d) c.add_beside.ensures.refused

pub add_beside-requires-2-clause-own : goal.add_beside-requires-2-clause-own
add_beside-requires-2-clause-own g c = own_of c.is_inline.result c.args.at c.is_inline.ensures (search rules)
