use Rattle.congee.specs.forms.RoomLemmas.{any_node_fits}
use Rattle.joint.specs.contracts.id.Id.{the_row}
use Rattle.joint.proofs.lemmas.nodes.Hanging.{holds_in, pulls_slot}
use Rattle.joint.specs.nodes.RoomLemmas.{small_id}
use Rattle.joint.proofs.nodes.slot.Slot.pull.Goals as goal

pub pull-requires : goal.pull-requires
pull-requires g c = (any_node_fits the_row g.row.P small_id g.met.P.Small.small, rw c.deref_mut.ensures.value (holds_in c.args.self.now c.in-Some.node c.args.byte c.in-Some.is c.requires.holds))

pub returns : goal.returns
returns g c = pulls_slot c.args.self.now c.in-Some.node c.pull.new.node c.args.byte c.pull.result c.in-Some.is c.requires.whole (rw c.deref_mut.ensures.value at c.pull.ensures.was) (rw c.deref_mut.ensures.value at c.pull.ensures.after)
