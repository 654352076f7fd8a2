use Rattle.std.proofs.Common.{rules, refl, ap, ◌<◌, arith}
use Rattle.congee.proofs.lemmas.owned.SlotOps.{has_slot, inline_there, inline_read, inline_same, take_leaf_stored, take_leaf_done, same_room}
use Rattle.congee.proofs.owned.nodes.Nodes.unhang_leaf.Goals as goal

pub index_mut-requires : goal.index_mut-requires
index_mut-requires g c = has_slot c.self.inside.slab c.args.self.now c.self.view_is c.self.inside.inline c.self.invariant c.args.at c.at.inside.slot c.at.inside.byte c.at.view_is c.at.invariant c.requires.stands c.requires.inner

pub take_child-requires : goal.take_child-requires
take_child-requires g c =
    let low : c.args.byte < 256 = search rules in
    let t = inline_there c.self.inside.slab c.args.self.now c.self.view_is c.self.inside.inline c.self.invariant c.args.at c.at.inside.slot c.at.inside.byte c.at.view_is c.at.invariant c.requires.stands c.requires.inner c.index_mut.result.now c.index_mut.result.now c.index_mut.ensures.value c.args.byte low c.requires.present in
    (g.met.P.Stored.fits, rw t.here refl)

pub unreachable-requires : goal.unreachable-requires
unreachable-requires g c =
    let low : c.args.byte < 256 = search rules in
    let t = (inline_there c.self.inside.slab c.args.self.now c.self.view_is c.self.inside.inline c.self.invariant c.args.at c.at.inside.slot c.at.inside.byte c.at.view_is c.at.invariant c.requires.stands c.requires.inner c.index_mut.result.now c.take_child.new.self c.index_mut.ensures.value c.args.byte low c.requires.present) in
    c.in_default.not-Value t.lone (inline_read c.self.inside.slab c.args.self.now c.self.view_is c.self.inside.inline c.self.invariant c.args.at c.at.inside.slot c.at.inside.byte c.at.view_is c.at.invariant c.requires.stands c.requires.inner c.index_mut.result.now c.take_child.new.self c.index_mut.ensures.value c.args.byte low t c.take_child.result c.take_child.ensures.was)

pub overflow_sub-self : goal.overflow_sub-self
overflow_sub-self g c =
    let low : c.args.byte < 256 = search rules in
    let t = (inline_there c.self.inside.slab c.args.self.now c.self.view_is c.self.inside.inline c.self.invariant c.args.at c.at.inside.slot c.at.inside.byte c.at.view_is c.at.invariant c.requires.stands c.requires.inner c.index_mut.result.now c.take_child.new.self c.index_mut.ensures.value c.args.byte low c.requires.present) in
    let z = t.some in
    omega (arith, z)

pub invariant_of-self : goal.invariant_of-self
invariant_of-self g c =
    let low : c.args.byte < 256 = search rules in
    let t = (inline_there c.self.inside.slab c.args.self.now c.self.view_is c.self.inside.inline c.self.invariant c.args.at c.at.inside.slot c.at.inside.byte c.at.view_is c.at.invariant c.requires.stands c.requires.inner c.index_mut.result.now c.take_child.new.self c.index_mut.ensures.value c.args.byte low c.requires.present) in
    take_leaf_stored c.self.inside.slab c.args.self.now c.self.view_is c.self.inside.inline c.self.invariant c.args.at c.at.inside.slot c.at.inside.byte c.at.view_is c.at.invariant c.requires.stands c.requires.inner c.index_mut.result.now c.take_child.new.self c.index_mut.ensures.value c.args.byte low t c.take_child.ensures.now

pub returns : goal.returns
returns g c =
    let low : c.args.byte < 256 = search rules in
    let t = (inline_there c.self.inside.slab c.args.self.now c.self.view_is c.self.inside.inline c.self.invariant c.args.at c.at.inside.slot c.at.inside.byte c.at.view_is c.at.invariant c.requires.stands c.requires.inner c.index_mut.result.now c.take_child.new.self c.index_mut.ensures.value c.args.byte low c.requires.present) in
    record {
      takes = take_leaf_done c.self.inside.slab c.args.self.now c.self.view_is c.self.inside.inline c.self.invariant c.args.at c.at.inside.slot c.at.inside.byte c.at.view_is c.at.invariant c.requires.stands c.requires.inner c.index_mut.result.now c.take_child.new.self c.index_mut.ensures.value c.args.byte low t _ (ap (λ l. l.value) (inline_same c.self.inside.slab c.args.self.now c.self.view_is c.self.inside.inline c.self.invariant c.args.at c.at.inside.slot c.at.inside.byte c.at.view_is c.at.invariant c.requires.stands c.requires.inner c.index_mut.result.now c.take_child.new.self c.index_mut.ensures.value c.args.byte low t c.take_child.result c.take_child.ensures.was c.in-Value.lone c.in-Value.is)) c.requires.present c.take_child.ensures.now;
      capacity = same_room c.self.inside.slab c.args.self.now c.self.view_is c.at.inside.slot c.take_child.new.self;
    }
