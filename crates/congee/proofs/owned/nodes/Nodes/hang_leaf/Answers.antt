use Rattle.std.proofs.Common.{rules, refl, ◌<◌, arith}
use Rattle.congee.proofs.lemmas.owned.SlotOps.{has_slot, slot_inner, slot_absent, slot_room, slot_first, spare_room, none_free, hang_leaf_stored, hang_leaf_done, same_room}
use Rattle.congee.proofs.owned.nodes.Nodes.hang_leaf.Goals as goal

pub prove-unreachable-requires : goal.prove-unreachable-requires
prove-unreachable-requires g c =
    let spare = spare_room c.self.inside.slab c.args.self.now c.self.view_is c.self.inside.inline c.self.invariant 1 c.requires.spare in
    omega (arith, spare, c.capacity.ensures.value, c.if-prove.true)

pub index_mut-requires : goal.index_mut-requires
index_mut-requires g c = has_slot c.self.inside.slab c.args.self.now c.self.view_is c.self.inside.inline c.self.invariant c.args.at c.at.inside.slot c.at.inside.byte c.at.view_is c.at.invariant c.requires.stands c.requires.inner

pub put_child-requires : goal.put_child-requires
put_child-requires g c = (
  g.met.P.Stored.fits,
  (slot_inner c.self.inside.slab c.args.self.now c.self.view_is c.self.inside.inline c.self.invariant c.args.at c.at.inside.slot c.at.inside.byte c.at.view_is c.at.invariant c.requires.stands c.requires.inner c.index_mut.result.now c.index_mut.ensures.value, (slot_absent c.self.inside.slab c.args.self.now c.self.view_is c.self.inside.inline c.self.invariant c.args.at c.at.inside.slot c.at.inside.byte c.at.view_is c.at.invariant c.requires.stands c.requires.inner c.index_mut.result.now c.index_mut.ensures.value c.args.byte c.requires.absent, (slot_room c.self.inside.slab c.args.self.now c.self.view_is c.self.inside.inline c.self.invariant c.args.at c.at.inside.slot c.at.inside.byte c.at.view_is c.at.invariant c.requires.stands c.requires.inner c.index_mut.result.now c.index_mut.ensures.value c.requires.room, slot_first c.self.inside.slab c.args.self.now c.self.view_is c.self.inside.inline c.self.invariant c.args.at c.at.inside.slot c.at.inside.byte c.at.view_is c.at.invariant c.requires.stands c.requires.inner c.index_mut.result.now c.index_mut.ensures.value c.args.byte _ c.requires.begins))),
)

pub invariant_of-self : goal.invariant_of-self
invariant_of-self g c =
    let low : c.args.byte < 256 = search rules in
    hang_leaf_stored c.self.inside.slab c.args.self.now c.self.view_is c.self.inside.inline c.self.invariant c.args.at c.at.inside.slot c.at.inside.byte c.at.view_is c.at.invariant c.requires.stands c.requires.inner c.index_mut.result.now c.put_child.new.self c.index_mut.ensures.value c.args.byte low _ c.requires.spare (none_free c.self.inside.slab c.args.self.now c.self.view_is c.self.inside.inline c.self.invariant c.args.at c.at.inside.slot c.at.inside.byte c.at.view_is c.at.invariant c.requires.stands c.requires.inner c.index_mut.result.now c.put_child.new.self c.index_mut.ensures.value c.args.byte low c.requires.absent) c.put_child.ensures

pub returns : goal.returns
returns g c =
    let low : c.args.byte < 256 = search rules in
    record {
      hangs = hang_leaf_done c.self.inside.slab c.args.self.now c.self.view_is c.self.inside.inline c.self.invariant c.args.at c.at.inside.slot c.at.inside.byte c.at.view_is c.at.invariant c.requires.stands c.requires.inner c.index_mut.result.now c.put_child.new.self c.index_mut.ensures.value c.args.byte low _ c.args.key.now c.args.value refl refl (none_free c.self.inside.slab c.args.self.now c.self.view_is c.self.inside.inline c.self.invariant c.args.at c.at.inside.slot c.at.inside.byte c.at.view_is c.at.invariant c.requires.stands c.requires.inner c.index_mut.result.now c.put_child.new.self c.index_mut.ensures.value c.args.byte low c.requires.absent) c.put_child.ensures;
      capacity = same_room c.self.inside.slab c.args.self.now c.self.view_is c.at.inside.slot c.put_child.new.self;
    }
