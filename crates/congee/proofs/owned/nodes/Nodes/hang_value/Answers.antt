use Rattle.congee.proofs.lemmas.owned.SlotLeaves.{leaf_slot, leaf_is, leaf_absent, leaf_room, hang_value_stored, hang_value_done}
use Rattle.congee.proofs.lemmas.owned.SlotOps.{same_room}
use Rattle.congee.proofs.owned.nodes.Nodes.hang_value.Goals as goal

pub index_mut-requires : goal.index_mut-requires
index_mut-requires g c = leaf_slot c.self.inside.slab c.args.self.now c.self.view_is c.self.inside.inline c.self.invariant c.args.at c.at.inside.slot c.at.inside.byte c.at.view_is c.at.invariant c.requires.own c.requires.stands

pub put_value-requires : goal.put_value-requires
put_value-requires g c = (
  g.met.P.Stored.fits,
  (leaf_is c.self.inside.slab c.args.self.now c.self.view_is c.self.inside.inline c.self.invariant c.args.at c.at.inside.slot c.at.inside.byte c.at.view_is c.at.invariant c.requires.own c.requires.stands c.index_mut.result.now c.index_mut.ensures.value c.requires.leaf, (leaf_absent c.self.inside.slab c.args.self.now c.self.view_is c.self.inside.inline c.self.invariant c.args.at c.at.inside.slot c.at.inside.byte c.at.view_is c.at.invariant c.requires.own c.requires.stands c.index_mut.result.now c.index_mut.ensures.value c.requires.leaf c.args.byte c.requires.absent, leaf_room c.self.inside.slab c.args.self.now c.self.view_is c.self.inside.inline c.self.invariant c.args.at c.at.inside.slot c.at.inside.byte c.at.view_is c.at.invariant c.requires.own c.requires.stands c.index_mut.result.now c.index_mut.ensures.value c.requires.leaf c.requires.room)),
)

pub invariant_of-self : goal.invariant_of-self
invariant_of-self g c = hang_value_stored c.self.inside.slab c.args.self.now c.self.view_is c.self.inside.inline c.self.invariant c.args.at c.at.inside.slot c.at.inside.byte c.at.view_is c.at.invariant c.requires.own c.requires.stands c.index_mut.result.now c.index_mut.ensures.value c.put_value.new.self c.requires.leaf c.args.byte c.args.value c.put_value.ensures

pub returns : goal.returns
returns g c = record {
  hangs = hang_value_done c.self.inside.slab c.args.self.now c.self.view_is c.self.inside.inline c.self.invariant c.args.at c.at.inside.slot c.at.inside.byte c.at.view_is c.at.invariant c.requires.own c.requires.stands c.index_mut.result.now c.index_mut.ensures.value c.put_value.new.self c.requires.leaf c.args.byte c.args.value c.put_value.ensures;
  capacity = same_room c.self.inside.slab c.args.self.now c.self.view_is c.at.inside.slot c.put_value.new.self;
}
