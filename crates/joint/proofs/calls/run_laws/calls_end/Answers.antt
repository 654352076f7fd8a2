use Rattle.joint.proofs.lemmas.calls.Ends.{between, all_end_well, all_unasked, opens_unasked}
use Rattle.joint.proofs.calls.run_laws.calls_end.Goals as goal

pub returns-clause-between : goal.returns-clause-between
returns-clause-between g c = between g.P.Payload.same_as g.P.Payload.always_copies

pub returns-clause-run : goal.returns-clause-run
returns-clause-run g c = all_end_well g.P.Payload.same_as g.P.Payload.always_copies

pub returns-clause-unasked : goal.returns-clause-unasked
returns-clause-unasked g c = λ s taken yes. all_unasked g.P.Payload.same_as g.P.Payload.always_copies yes s taken

pub returns-clause-opened : goal.returns-clause-opened
returns-clause-opened g c = opens_unasked
