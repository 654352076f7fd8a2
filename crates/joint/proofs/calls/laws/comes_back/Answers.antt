use Rattle.joint.proofs.lemmas.calls.Rounds.{came_back, all_came_back}
use Rattle.joint.proofs.calls.laws.comes_back.Goals as goal

pub returns-clause-bags : goal.returns-clause-bags
returns-clause-bags g c = came_back g.P.Payload.same_as g.P.Payload.always_copies c.call_laws.ensures (record { begins = c.parts.ensures.begins; more = c.parts.ensures.more; ends = c.parts.ensures.ends; bags = c.rounds.ensures.bags; empties = c.rounds.ensures.empties })

pub returns-clause-nodes : goal.returns-clause-nodes
returns-clause-nodes g c = all_came_back g.P.Payload.same_as g.P.Payload.always_copies c.call_laws.ensures (record { begins = c.parts.ensures.begins; more = c.parts.ensures.more; ends = c.parts.ensures.ends; bags = c.rounds.ensures.bags; empties = c.rounds.ensures.empties })
