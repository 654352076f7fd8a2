use Rattle.std.proofs.Common.{rules, ◌<◌}
use Rattle.congee.proofs.lemmas.owned.SlotOps.{has_slot, slot_present, take_node_stored, take_node_done, same_capacity}
use Rattle.congee.proofs.owned.nodes.Nodes.unhang_node.Goals as goal

pub index_mut-requires : goal.index_mut-requires
index_mut-requires g c = has_slot c.self.inside.slab c.args.self.now c.self.view_is c.self.inside.inline c.self.invariant c.args.at c.at.inside.slot c.at.inside.byte c.at.view_is c.at.invariant c.requires.stands c.requires.inner

pub take_child-requires : goal.take_child-requires
take_child-requires g c = (
  g.met.P.Stored.fits,
  (let low : c.args.byte < 256 = search rules in slot_present c.self.inside.slab c.args.self.now c.self.view_is c.self.inside.inline c.self.invariant c.args.at c.at.inside.slot c.at.inside.byte c.at.view_is c.at.invariant c.requires.stands c.requires.inner c.index_mut.result.now c.index_mut.result.now c.index_mut.ensures.value c.args.byte low c.requires.present),
)

pub invariant_of-self : goal.invariant_of-self
invariant_of-self g c =
    let low : c.args.byte < 256 = search rules in
    take_node_stored c.self.inside.slab c.args.self.now c.self.view_is c.self.inside.inline c.self.invariant c.args.at c.at.inside.slot c.at.inside.byte c.at.view_is c.at.invariant c.requires.stands c.requires.inner c.index_mut.result.now c.take_child.new.self c.index_mut.ensures.value c.args.byte low c.requires.present c.take_child.ensures.now

pub returns : goal.returns
returns g c =
    let low : c.args.byte < 256 = search rules in
    record {
      takes = take_node_done c.self.inside.slab c.args.self.now c.self.view_is c.self.inside.inline c.self.invariant c.args.at c.at.inside.slot c.at.inside.byte c.at.view_is c.at.invariant c.requires.stands c.requires.inner c.index_mut.result.now c.take_child.new.self c.index_mut.ensures.value c.args.byte low c.requires.present c.take_child.ensures.now;
      capacity = same_capacity c.self.inside.slab c.args.self.now c.self.view_is c.self.inside.inline c.self.invariant c.args.at c.at.inside.slot c.at.inside.byte c.at.view_is c.at.invariant c.requires.stands c.requires.inner c.index_mut.result.now c.take_child.new.self;
    }
