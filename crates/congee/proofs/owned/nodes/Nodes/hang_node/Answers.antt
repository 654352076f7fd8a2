use Rattle.std.proofs.Common.{rules, ◌<◌}
use Rattle.congee.proofs.lemmas.owned.SlotOps.{has_slot, slot_inner, slot_absent, slot_room, none_free, own_slot, put_node_stored, put_node_done, same_capacity}
use Rattle.congee.proofs.owned.nodes.Nodes.hang_node.Goals as goal

pub index_mut-requires : goal.index_mut-requires
index_mut-requires g c = has_slot c.self.inside.slab c.args.self.now c.self.view_is c.self.inside.inline c.self.invariant c.args.at c.at.inside.slot c.at.inside.byte c.at.view_is c.at.invariant c.requires.stands c.requires.inner

pub put_child-requires : goal.put_child-requires
put_child-requires g c = (
  g.met.P.Stored.fits,
  (slot_inner c.self.inside.slab c.args.self.now c.self.view_is c.self.inside.inline c.self.invariant c.args.at c.at.inside.slot c.at.inside.byte c.at.view_is c.at.invariant c.requires.stands c.requires.inner c.index_mut.result.now c.index_mut.ensures.value, (slot_absent c.self.inside.slab c.args.self.now c.self.view_is c.self.inside.inline c.self.invariant c.args.at c.at.inside.slot c.at.inside.byte c.at.view_is c.at.invariant c.requires.stands c.requires.inner c.index_mut.result.now c.index_mut.ensures.value c.args.byte c.requires.absent, (slot_room c.self.inside.slab c.args.self.now c.self.view_is c.self.inside.inline c.self.invariant c.args.at c.at.inside.slot c.at.inside.byte c.at.view_is c.at.invariant c.requires.stands c.requires.inner c.index_mut.result.now c.index_mut.ensures.value c.requires.room, tt))),
)

pub invariant_of-self : goal.invariant_of-self
invariant_of-self g c =
    let low : c.args.byte < 256 = search rules in
    put_node_stored c.self.inside.slab c.args.self.now c.self.view_is c.self.inside.inline c.self.invariant c.args.at c.at.inside.slot c.at.inside.byte c.at.view_is c.at.invariant c.requires.stands c.requires.inner c.index_mut.result.now c.put_child.new.self c.index_mut.ensures.value c.args.byte low c.below.inside.slot (none_free c.self.inside.slab c.args.self.now c.self.view_is c.self.inside.inline c.self.invariant c.args.at c.at.inside.slot c.at.inside.byte c.at.view_is c.at.invariant c.requires.stands c.requires.inner c.index_mut.result.now c.put_child.new.self c.index_mut.ensures.value c.args.byte low c.requires.absent) c.put_child.ensures

pub returns : goal.returns
returns g c =
    let low : c.args.byte < 256 = search rules in
    record {
      hangs = put_node_done c.self.inside.slab c.args.self.now c.self.view_is c.self.inside.inline c.self.invariant c.args.at c.at.inside.slot c.at.inside.byte c.at.view_is c.at.invariant c.requires.stands c.requires.inner c.index_mut.result.now c.put_child.new.self c.index_mut.ensures.value c.args.byte low c.below.inside.slot c.args.below (own_slot c.args.below c.below.inside.slot c.below.inside.byte c.below.view_is c.below.invariant c.requires.own) (none_free c.self.inside.slab c.args.self.now c.self.view_is c.self.inside.inline c.self.invariant c.args.at c.at.inside.slot c.at.inside.byte c.at.view_is c.at.invariant c.requires.stands c.requires.inner c.index_mut.result.now c.put_child.new.self c.index_mut.ensures.value c.args.byte low c.requires.absent) c.put_child.ensures;
      capacity = same_capacity c.self.inside.slab c.args.self.now c.self.view_is c.self.inside.inline c.self.invariant c.args.at c.at.inside.slot c.at.inside.byte c.at.view_is c.at.invariant c.requires.stands c.requires.inner c.index_mut.result.now c.put_child.new.self;
    }
