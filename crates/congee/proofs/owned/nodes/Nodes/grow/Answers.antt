use Rattle.congee.proofs.lemmas.owned.SlotComes.{full_slot, grow_stored, grow_done, grow_kept}
use Rattle.congee.proofs.lemmas.owned.SlotOps.{same_room}
use Rattle.congee.proofs.owned.nodes.Nodes.grow.Goals as goal

pub index_mut-requires : goal.index_mut-requires
index_mut-requires g c = full_slot c.self.inside.slab c.args.self.now c.self.view_is c.self.inside.inline c.self.invariant c.args.at c.at.inside.slot c.at.inside.byte c.at.view_is c.at.invariant c.requires.stands c.requires.full

pub invariant_of-self : goal.invariant_of-self
invariant_of-self g c = grow_stored c.self.inside.slab c.args.self.now c.self.view_is c.self.inside.inline c.self.invariant c.args.at c.at.inside.slot c.at.inside.byte c.at.view_is c.at.invariant c.requires.stands c.requires.full c.index_mut.result.now c.grow.new.self c.index_mut.ensures.value c.grow.result c.grow.ensures.grown c.grow.ensures.refused

pub returns : goal.returns
returns g c = record {
  grown = grow_done c.self.inside.slab c.args.self.now c.self.view_is c.self.inside.inline c.self.invariant c.args.at c.at.inside.slot c.at.inside.byte c.at.view_is c.at.invariant c.requires.stands c.requires.full c.index_mut.result.now c.grow.new.self c.index_mut.ensures.value c.grow.result c.grow.ensures.grown;
  refused = grow_kept c.self.inside.slab c.args.self.now c.self.view_is c.self.inside.inline c.self.invariant c.args.at c.at.inside.slot c.at.inside.byte c.at.view_is c.at.invariant c.requires.stands c.requires.full c.index_mut.result.now c.grow.new.self c.index_mut.ensures.value c.grow.result c.grow.ensures.refused;
  capacity = same_room c.self.inside.slab c.args.self.now c.self.view_is c.at.inside.slot c.grow.new.self;
}
