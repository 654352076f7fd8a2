use Rattle.congee.specs.forms.RoomLemmas.{any_node_fits}
use Rattle.joint.specs.contracts.id.Id.{the_row}
use Rattle.joint.proofs.lemmas.nodes.Hanging.{present, room_in, no_word}
use Rattle.joint.specs.nodes.RoomLemmas.{small_id}
use Rattle.joint.proofs.nodes.slot.hang.Goals as goal

pub remove-requires : goal.remove-requires
remove-requires g c = (any_node_fits the_row g.row.P small_id g.met.P.Small.small, present c.args.node.now c.args.byte c.args.child c.in-Blank.is (c.requires.room no_word))

pub put-requires : goal.put-requires
put-requires g c = (any_node_fits the_row g.row.P small_id g.met.P.Small.small, λ none. room_in c.args.node.now c.args.byte c.args.child _ c.in-Node.is tt (c.requires.room no_word) none)

pub put-requires-in-Value : goal.put-requires-in-Value
put-requires-in-Value g c = (any_node_fits the_row g.row.P small_id g.met.P.Small.small, λ none. room_in c.args.node.now c.args.byte c.args.child _ c.in-Value.is tt (c.requires.room no_word) none)
