use Rattle.std.proofs.Common.{rules, refl, ◌<◌, arith}
use Rattle.congee.proofs.lemmas.owned.SlotOps.{has_slot, inline_there, inline_read, inline_same, own_slot, cover_leaf_stored, cover_leaf_done, same_room}
use Rattle.congee.proofs.owned.nodes.Nodes.cover_leaf.Goals as goal

pub index_mut-requires : goal.index_mut-requires
index_mut-requires g c = has_slot c.self.inside.slab c.args.self.now c.self.view_is c.self.inside.inline c.self.invariant c.args.at c.at.inside.slot c.at.inside.byte c.at.view_is c.at.invariant c.requires.stands c.requires.inner

pub change_child-requires : goal.change_child-requires
change_child-requires g c =
    let low : c.args.byte < 256 = search rules in
    let t = inline_there c.self.inside.slab c.args.self.now c.self.view_is c.self.inside.inline c.self.invariant c.args.at c.at.inside.slot c.at.inside.byte c.at.view_is c.at.invariant c.requires.stands c.requires.inner c.index_mut.result.now c.index_mut.result.now c.index_mut.ensures.value c.args.byte low c.requires.present in
    (g.met.P.Stored.fits, (rw t.here refl, tt))

pub unreachable-requires : goal.unreachable-requires
unreachable-requires g c =
    let low : c.args.byte < 256 = search rules in
    let t = (inline_there c.self.inside.slab c.args.self.now c.self.view_is c.self.inside.inline c.self.invariant c.args.at c.at.inside.slot c.at.inside.byte c.at.view_is c.at.invariant c.requires.stands c.requires.inner c.index_mut.result.now c.change_child.new.self c.index_mut.ensures.value c.args.byte low c.requires.present) in
    c.in_default.not-Value t.lone (inline_read c.self.inside.slab c.args.self.now c.self.view_is c.self.inside.inline c.self.invariant c.args.at c.at.inside.slot c.at.inside.byte c.at.view_is c.at.invariant c.requires.stands c.requires.inner c.index_mut.result.now c.change_child.new.self c.index_mut.ensures.value c.args.byte low t c.change_child.result c.change_child.ensures.was)

pub overflow_sub-self : goal.overflow_sub-self
overflow_sub-self g c =
    let low : c.args.byte < 256 = search rules in
    let t = (inline_there c.self.inside.slab c.args.self.now c.self.view_is c.self.inside.inline c.self.invariant c.args.at c.at.inside.slot c.at.inside.byte c.at.view_is c.at.invariant c.requires.stands c.requires.inner c.index_mut.result.now c.change_child.new.self c.index_mut.ensures.value c.args.byte low c.requires.present) in
    let z = t.some in
    omega (arith, z)

pub invariant_of-self : goal.invariant_of-self
invariant_of-self g c =
    let low : c.args.byte < 256 = search rules in
    let t = (inline_there c.self.inside.slab c.args.self.now c.self.view_is c.self.inside.inline c.self.invariant c.args.at c.at.inside.slot c.at.inside.byte c.at.view_is c.at.invariant c.requires.stands c.requires.inner c.index_mut.result.now c.change_child.new.self c.index_mut.ensures.value c.args.byte low c.requires.present) in
    cover_leaf_stored c.self.inside.slab c.args.self.now c.self.view_is c.self.inside.inline c.self.invariant c.args.at c.at.inside.slot c.at.inside.byte c.at.view_is c.at.invariant c.requires.stands c.requires.inner c.index_mut.result.now c.change_child.new.self c.index_mut.ensures.value c.args.byte low t c.below.inside.slot c.change_child.ensures.now

pub returns : goal.returns
returns g c =
    let low : c.args.byte < 256 = search rules in
    let t = (inline_there c.self.inside.slab c.args.self.now c.self.view_is c.self.inside.inline c.self.invariant c.args.at c.at.inside.slot c.at.inside.byte c.at.view_is c.at.invariant c.requires.stands c.requires.inner c.index_mut.result.now c.change_child.new.self c.index_mut.ensures.value c.args.byte low c.requires.present) in
    record {
      covers = cover_leaf_done c.self.inside.slab c.args.self.now c.self.view_is c.self.inside.inline c.self.invariant c.args.at c.at.inside.slot c.at.inside.byte c.at.view_is c.at.invariant c.requires.stands c.requires.inner c.index_mut.result.now c.change_child.new.self c.index_mut.ensures.value c.args.byte low t c.below.inside.slot c.args.below (own_slot c.args.below c.below.inside.slot c.below.inside.byte c.below.view_is c.below.invariant c.requires.own) c.in-Value.lone (inline_same c.self.inside.slab c.args.self.now c.self.view_is c.self.inside.inline c.self.invariant c.args.at c.at.inside.slot c.at.inside.byte c.at.view_is c.at.invariant c.requires.stands c.requires.inner c.index_mut.result.now c.change_child.new.self c.index_mut.ensures.value c.args.byte low t c.change_child.result c.change_child.ensures.was c.in-Value.lone c.in-Value.is) c.requires.present c.change_child.ensures.now;
      capacity = same_room c.self.inside.slab c.args.self.now c.self.view_is c.at.inside.slot c.change_child.new.self;
    }
