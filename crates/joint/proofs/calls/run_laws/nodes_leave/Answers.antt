use Rattle.joint.proofs.lemmas.calls.LeavesRuns.{all_leave_once, all_left_locked, opens_locked}
use Rattle.joint.proofs.calls.run_laws.nodes_leave.Goals as goal

pub returns-clause-run : goal.returns-clause-run
returns-clause-run g c = all_leave_once g.P.Payload.same_as g.P.Payload.always_copies c.call_laws.ensures c.leaves.ensures

pub returns-clause-locked : goal.returns-clause-locked
returns-clause-locked g c = all_left_locked g.P.Payload.same_as g.P.Payload.always_copies c.call_laws.ensures c.leaves.ensures

pub returns-clause-opened : goal.returns-clause-opened
returns-clause-opened g c = opens_locked
