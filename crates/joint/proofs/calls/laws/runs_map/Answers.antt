use Rattle.joint.proofs.lemmas.calls.Runs.{runs_map, runs_fresh, entries_legal}
use Rattle.joint.proofs.lemmas.calls.Scans.{scans_hold, empty_scans_hold}
use Rattle.joint.proofs.calls.laws.runs_map.Goals as goal

pub returns-clause-plays : goal.returns-clause-plays
returns-clause-plays g c = runs_map g.P.Payload.same_as g.P.Payload.always_copies

pub returns-clause-fresh : goal.returns-clause-fresh
returns-clause-fresh g c = runs_fresh g.P.Payload.same_as g.P.Payload.always_copies

pub returns-clause-legal : goal.returns-clause-legal
returns-clause-legal g c = entries_legal g.P.Payload.same_as g.P.Payload.always_copies

pub returns-clause-scans : goal.returns-clause-scans
returns-clause-scans g c fs m lines fs' r = (scans_hold g.P.Payload.same_as fs m lines fs' r, empty_scans_hold g.P.Payload.same_as fs m lines fs' r)
