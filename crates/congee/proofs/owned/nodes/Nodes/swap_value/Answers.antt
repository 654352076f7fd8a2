use Rattle.std.proofs.Common.{refl}
use Rattle.congee.proofs.lemmas.owned.SlotLeaves.{leaf_slot, leaf_value, leaf_was, swap_value_stored, swap_value_done}
use Rattle.congee.proofs.lemmas.owned.SlotOps.{same_room}
use Rattle.congee.proofs.lemmas.owned.SlotValues.{inline_first, inline_holds, inline_only, inline_present, inline_reads, inline_slot, inline_stored, inline_swaps, inline_was, own_none}
use Rattle.congee.specs.owned.Entries.{lone_seen}
use Rattle.congee.proofs.owned.nodes.Nodes.swap_value.Goals as goal

pub index_mut-requires : goal.index_mut-requires
index_mut-requires g c = leaf_slot c.self.inside.slab c.args.self.now c.self.view_is c.self.inside.inline c.self.invariant c.args.at c.at.inside.slot c.at.inside.byte c.at.view_is c.at.invariant (own_none c.args.at c.at.inside.slot c.at.inside.byte c.at.view_is c.in-None.is) c.requires.stands

pub change_value-requires : goal.change_value-requires
change_value-requires g c = (g.met.P.Stored.fits, leaf_value c.self.inside.slab c.args.self.now c.self.view_is c.self.inside.inline c.self.invariant c.args.at c.at.inside.slot c.at.inside.byte c.at.view_is c.at.invariant (own_none c.args.at c.at.inside.slot c.at.inside.byte c.at.view_is c.in-None.is) c.requires.stands c.index_mut.result.now c.index_mut.ensures.value c.args.byte c.requires.present)

pub invariant_of-self : goal.invariant_of-self
invariant_of-self g c = swap_value_stored c.self.inside.slab c.args.self.now c.self.view_is c.self.inside.inline c.self.invariant c.args.at c.at.inside.slot c.at.inside.byte c.at.view_is c.at.invariant (own_none c.args.at c.at.inside.slot c.at.inside.byte c.at.view_is c.in-None.is) c.requires.stands c.index_mut.result.now c.index_mut.ensures.value c.change_value.new.self c.args.byte c.args.value c.requires.present c.change_value.ensures.now

pub index-requires : goal.index-requires
index-requires g c = inline_slot c.self.inside.slab c.args.self.now c.self.view_is c.self.inside.inline c.self.invariant c.args.at c.at.inside.slot c.at.inside.byte c.at.view_is c.at.invariant c.in-Some.place c.in-Some.is c.requires.stands c.args.byte c.requires.present

pub lone-requires : goal.lone-requires
lone-requires g c = (g.met.P.Stored.fits, inline_holds c.self.inside.slab c.args.self.now c.self.view_is c.self.inside.inline c.self.invariant c.args.at c.at.inside.slot c.at.inside.byte c.at.view_is c.at.invariant c.in-Some.place c.in-Some.is c.requires.stands c.args.byte c.requires.present c.index.result.now c.index.ensures)

pub index_mut-requires-in-Some : goal.index_mut-requires-in-Some
index_mut-requires-in-Some g c = inline_slot c.self.inside.slab c.args.self.now c.self.view_is c.self.inside.inline c.self.invariant c.args.at c.at.inside.slot c.at.inside.byte c.at.view_is c.at.invariant c.in-Some.place c.in-Some.is c.requires.stands c.args.byte c.requires.present

pub change_child-requires : goal.change_child-requires
change_child-requires g c = (g.met.P.Stored.fits, (inline_present c.self.inside.slab c.args.self.now c.self.view_is c.self.inside.inline c.self.invariant c.args.at c.at.inside.slot c.at.inside.byte c.at.view_is c.at.invariant c.in-Some.place c.in-Some.is c.requires.stands c.args.byte c.requires.present c.index_mut-in-Some.result.now c.index_mut-in-Some.ensures.value, inline_first c.self.inside.slab c.args.self.now c.self.view_is c.self.inside.inline c.self.invariant c.args.at c.at.inside.slot c.at.inside.byte c.at.view_is c.at.invariant c.in-Some.place c.in-Some.is c.requires.stands c.args.byte c.requires.present c.index_mut-in-Some.result.now c.index_mut-in-Some.ensures.value c.index.result.now c.index.ensures _ c.lone.ensures.begins))

pub unreachable-requires : goal.unreachable-requires
unreachable-requires g c = inline_only c.self.inside.slab c.args.self.now c.self.view_is c.self.inside.inline c.self.invariant c.args.at c.at.inside.slot c.at.inside.byte c.at.view_is c.at.invariant c.in-Some.place c.in-Some.is c.requires.stands c.args.byte c.requires.present c.index_mut-in-Some.result.now c.index_mut-in-Some.ensures.value c.change_child.result c.change_child.ensures.was c.in_default.not-Value

pub invariant_of-self-in-Some : goal.invariant_of-self-in-Some
invariant_of-self-in-Some g c = inline_stored c.self.inside.slab c.args.self.now c.self.view_is c.self.inside.inline c.self.invariant c.args.at c.at.inside.slot c.at.inside.byte c.at.view_is c.at.invariant c.in-Some.place c.in-Some.is c.requires.stands c.args.byte c.requires.present c.index_mut-in-Some.result.now c.index_mut-in-Some.ensures.value (lone_seen c.lone.result) _ (inline_reads c.self.inside.slab c.args.self.now c.self.view_is c.self.inside.inline c.self.invariant c.args.at c.at.inside.slot c.at.inside.byte c.at.view_is c.at.invariant c.in-Some.place c.in-Some.is c.requires.stands c.args.byte c.requires.present c.index.result.now c.index.ensures (lone_seen c.lone.result) c.lone.ensures.leaf) refl c.change_child.new.self c.change_child.ensures.now

pub returns-in-None-clause-was : goal.returns-in-None-clause-was
returns-in-None-clause-was g c = leaf_was c.self.inside.slab c.args.self.now c.self.view_is c.self.inside.inline c.self.invariant c.args.at c.at.inside.slot c.at.inside.byte c.at.view_is c.at.invariant (own_none c.args.at c.at.inside.slot c.at.inside.byte c.at.view_is c.in-None.is) c.requires.stands c.index_mut.result.now c.index_mut.ensures.value c.args.byte c.change_value.result c.requires.present c.change_value.ensures.was

pub returns-in-None-clause-swaps : goal.returns-in-None-clause-swaps
returns-in-None-clause-swaps g c = swap_value_done c.self.inside.slab c.args.self.now c.self.view_is c.self.inside.inline c.self.invariant c.args.at c.at.inside.slot c.at.inside.byte c.at.view_is c.at.invariant (own_none c.args.at c.at.inside.slot c.at.inside.byte c.at.view_is c.in-None.is) c.requires.stands c.index_mut.result.now c.index_mut.ensures.value c.change_value.new.self c.args.byte c.args.value c.requires.present c.change_value.ensures.now

pub returns-in-None-clause-capacity : goal.returns-in-None-clause-capacity
returns-in-None-clause-capacity g c = same_room c.self.inside.slab c.args.self.now c.self.view_is c.at.inside.slot c.change_value.new.self

pub returns-in-Value-clause-was : goal.returns-in-Value-clause-was
returns-in-Value-clause-was g c = inline_was c.self.inside.slab c.args.self.now c.self.view_is c.self.inside.inline c.self.invariant c.args.at c.at.inside.slot c.at.inside.byte c.at.view_is c.at.invariant c.in-Some.place c.in-Some.is c.requires.stands c.args.byte c.requires.present c.index_mut-in-Some.result.now c.index_mut-in-Some.ensures.value c.in-Value.lone c.change_child.result c.change_child.ensures.was c.in-Value.is

pub returns-in-Value-clause-swaps : goal.returns-in-Value-clause-swaps
returns-in-Value-clause-swaps g c = inline_swaps c.self.inside.slab c.args.self.now c.self.view_is c.self.inside.inline c.self.invariant c.args.at c.at.inside.slot c.at.inside.byte c.at.view_is c.at.invariant c.in-Some.place c.in-Some.is c.requires.stands c.args.byte c.requires.present c.index_mut-in-Some.result.now c.index_mut-in-Some.ensures.value (lone_seen c.lone.result) _ (inline_reads c.self.inside.slab c.args.self.now c.self.view_is c.self.inside.inline c.self.invariant c.args.at c.at.inside.slot c.at.inside.byte c.at.view_is c.at.invariant c.in-Some.place c.in-Some.is c.requires.stands c.args.byte c.requires.present c.index.result.now c.index.ensures (lone_seen c.lone.result) c.lone.ensures.leaf) refl c.change_child.new.self c.change_child.ensures.now

pub returns-in-Value-clause-capacity : goal.returns-in-Value-clause-capacity
returns-in-Value-clause-capacity g c = same_room c.self.inside.slab c.args.self.now c.self.view_is c.at.inside.slot c.change_child.new.self
