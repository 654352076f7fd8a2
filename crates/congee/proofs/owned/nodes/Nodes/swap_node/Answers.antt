use Rattle.std.proofs.Common.{rules, ◌<◌}
use Rattle.congee.proofs.lemmas.owned.SlotOps.{has_slot, slot_present, node_free, own_slot, put_node_stored, put_node_done, same_capacity}
use Rattle.congee.proofs.owned.nodes.Nodes.swap_node.Goals as goal

pub index_mut-requires : goal.index_mut-requires
index_mut-requires g c = has_slot c.self.inside.slab c.args.self.now c.self.view_is c.self.inside.inline c.self.invariant c.args.at c.at.inside.slot c.at.inside.byte c.at.view_is c.at.invariant c.requires.stands c.requires.inner

pub change_child-requires : goal.change_child-requires
change_child-requires g c = (
  g.met.P.Stored.fits,
  (let low : c.args.byte < 256 = search rules in slot_present c.self.inside.slab c.args.self.now c.self.view_is c.self.inside.inline c.self.invariant c.args.at c.at.inside.slot c.at.inside.byte c.at.view_is c.at.invariant c.requires.stands c.requires.inner c.index_mut.result.now c.index_mut.result.now c.index_mut.ensures.value c.args.byte low c.requires.present, tt),
)

pub invariant_of-self : goal.invariant_of-self
invariant_of-self g c =
    let low : c.args.byte < 256 = search rules in
    put_node_stored c.self.inside.slab c.args.self.now c.self.view_is c.self.inside.inline c.self.invariant c.args.at c.at.inside.slot c.at.inside.byte c.at.view_is c.at.invariant c.requires.stands c.requires.inner c.index_mut.result.now c.change_child.new.self c.index_mut.ensures.value c.args.byte low c.below.inside.slot (node_free c.self.inside.slab c.args.self.now c.self.view_is c.self.inside.inline c.self.invariant c.args.at c.at.inside.slot c.at.inside.byte c.at.view_is c.at.invariant c.requires.stands c.requires.inner c.index_mut.result.now c.change_child.new.self c.index_mut.ensures.value c.args.byte low c.requires.present) c.change_child.ensures.now

pub returns : goal.returns
returns g c =
    let low : c.args.byte < 256 = search rules in
    record {
      swaps = put_node_done c.self.inside.slab c.args.self.now c.self.view_is c.self.inside.inline c.self.invariant c.args.at c.at.inside.slot c.at.inside.byte c.at.view_is c.at.invariant c.requires.stands c.requires.inner c.index_mut.result.now c.change_child.new.self c.index_mut.ensures.value c.args.byte low c.below.inside.slot c.args.below (own_slot c.args.below c.below.inside.slot c.below.inside.byte c.below.view_is c.below.invariant c.requires.own) (node_free c.self.inside.slab c.args.self.now c.self.view_is c.self.inside.inline c.self.invariant c.args.at c.at.inside.slot c.at.inside.byte c.at.view_is c.at.invariant c.requires.stands c.requires.inner c.index_mut.result.now c.change_child.new.self c.index_mut.ensures.value c.args.byte low c.requires.present) c.change_child.ensures.now;
      capacity = same_capacity c.self.inside.slab c.args.self.now c.self.view_is c.self.inside.inline c.self.invariant c.args.at c.at.inside.slot c.at.inside.byte c.at.view_is c.at.invariant c.requires.stands c.requires.inner c.index_mut.result.now c.change_child.new.self;
    }
