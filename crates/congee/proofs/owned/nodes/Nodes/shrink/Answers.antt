use Rattle.congee.proofs.lemmas.owned.Lessening.{great_slot, great_room, shrink_stored, shrink_done, shrink_kept, shrink_memory}
use Rattle.congee.proofs.lemmas.owned.SlotOps.{same_room}
use Rattle.congee.proofs.owned.nodes.Nodes.shrink.Goals as goal

pub index_mut-requires : goal.index_mut-requires
index_mut-requires g c = great_slot c.self.inside.slab c.args.self.now c.self.view_is c.self.inside.inline c.self.invariant c.args.at c.at.inside.slot c.at.inside.byte c.at.view_is c.at.invariant c.requires.stands c.requires.greater

pub shrink-requires : goal.shrink-requires
shrink-requires g c = (
  g.met.P.Stored.fits,
  great_room c.self.inside.slab c.args.self.now c.self.view_is c.self.inside.inline c.self.invariant c.args.at c.at.inside.slot c.at.inside.byte c.at.view_is c.at.invariant c.requires.stands c.requires.greater c.index_mut.result.now c.index_mut.ensures.value c.requires.room,
)

pub invariant_of-self : goal.invariant_of-self
invariant_of-self g c = shrink_stored c.self.inside.slab c.args.self.now c.self.view_is c.self.inside.inline c.self.invariant c.args.at c.at.inside.slot c.at.inside.byte c.at.view_is c.at.invariant c.requires.stands c.requires.greater c.index_mut.result.now c.index_mut.ensures.value c.shrink.new.self c.shrink.result c.shrink.ensures.shrunk c.shrink.ensures.refused

pub returns : goal.returns
returns g c = record {
  shrunk = shrink_done c.self.inside.slab c.args.self.now c.self.view_is c.self.inside.inline c.self.invariant c.args.at c.at.inside.slot c.at.inside.byte c.at.view_is c.at.invariant c.requires.stands c.requires.greater c.index_mut.result.now c.index_mut.ensures.value c.shrink.new.self c.shrink.result c.shrink.ensures.shrunk;
  refused = shrink_kept c.self.inside.slab c.args.self.now c.self.view_is c.self.inside.inline c.self.invariant c.args.at c.at.inside.slot c.at.inside.byte c.at.view_is c.at.invariant c.requires.stands c.requires.greater c.index_mut.result.now c.index_mut.ensures.value c.shrink.new.self c.shrink.result c.shrink.ensures.refused;
  memory = shrink_memory c.self.inside.slab c.args.self.now c.self.view_is c.self.inside.inline c.self.invariant c.args.at c.at.inside.slot c.at.inside.byte c.at.view_is c.at.invariant c.requires.stands c.requires.greater c.index_mut.result.now c.index_mut.ensures.value c.shrink.new.self c.shrink.result c.shrink.ensures.memory;
  capacity = same_room c.self.inside.slab c.args.self.now c.self.view_is c.at.inside.slot c.shrink.new.self;
}
