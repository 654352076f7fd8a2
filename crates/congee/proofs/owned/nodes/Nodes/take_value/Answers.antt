use Rattle.congee.proofs.lemmas.owned.SlotLeaves.{leaf_slot, leaf_value, leaf_was, take_value_stored, take_value_done}
use Rattle.congee.proofs.lemmas.owned.SlotOps.{same_room}
use Rattle.congee.proofs.owned.nodes.Nodes.take_value.Goals as goal

pub index_mut-requires : goal.index_mut-requires
index_mut-requires g c = leaf_slot c.self.inside.slab c.args.self.now c.self.view_is c.self.inside.inline c.self.invariant c.args.at c.at.inside.slot c.at.inside.byte c.at.view_is c.at.invariant c.requires.own c.requires.stands

pub take_value-requires : goal.take_value-requires
take_value-requires g c = (g.met.P.Stored.fits, leaf_value c.self.inside.slab c.args.self.now c.self.view_is c.self.inside.inline c.self.invariant c.args.at c.at.inside.slot c.at.inside.byte c.at.view_is c.at.invariant c.requires.own c.requires.stands c.index_mut.result.now c.index_mut.ensures.value c.args.byte c.requires.present)

pub invariant_of-self : goal.invariant_of-self
invariant_of-self g c = take_value_stored c.self.inside.slab c.args.self.now c.self.view_is c.self.inside.inline c.self.invariant c.args.at c.at.inside.slot c.at.inside.byte c.at.view_is c.at.invariant c.requires.own c.requires.stands c.index_mut.result.now c.index_mut.ensures.value c.take_value.new.self c.args.byte c.requires.present c.take_value.ensures.now

pub returns : goal.returns
returns g c = record {
  was = leaf_was c.self.inside.slab c.args.self.now c.self.view_is c.self.inside.inline c.self.invariant c.args.at c.at.inside.slot c.at.inside.byte c.at.view_is c.at.invariant c.requires.own c.requires.stands c.index_mut.result.now c.index_mut.ensures.value c.args.byte c.take_value.result c.requires.present c.take_value.ensures.was;
  takes = take_value_done c.self.inside.slab c.args.self.now c.self.view_is c.self.inside.inline c.self.invariant c.args.at c.at.inside.slot c.at.inside.byte c.at.view_is c.at.invariant c.requires.own c.requires.stands c.index_mut.result.now c.index_mut.ensures.value c.take_value.new.self c.args.byte c.requires.present c.take_value.ensures.now;
  capacity = same_room c.self.inside.slab c.args.self.now c.self.view_is c.at.inside.slot c.take_value.new.self;
}
