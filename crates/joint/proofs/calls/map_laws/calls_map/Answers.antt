use Rattle.joint.specs.nodes.Nodes.{nodes}
use Rattle.joint.proofs.lemmas.calls.MapCalls.{plays_call, register_keeps, scanned}
use Rattle.joint.proofs.lemmas.calls.Runs.{standing_empty, fresh_flights}
use Rattle.joint.proofs.calls.map_laws.calls_map.Goals as goal

pub returns-clause-plays : goal.returns-clause-plays
returns-clause-plays g c = plays_call g.P.Payload.same_as g.P.Payload.always_copies

pub returns-clause-scan : goal.returns-clause-scan
returns-clause-scan g c = scanned g.P.Payload.same_as g.P.Payload.always_copies

pub returns-clause-registers : goal.returns-clause-registers
returns-clause-registers g c = register_keeps g.P.Payload.same_as g.P.Payload.always_copies

pub returns-clause-fresh : goal.returns-clause-fresh
returns-clause-fresh g c s fresh =
    (standing_empty g.P.Payload.same_as g.P.Payload.always_copies (nodes s.forest) fresh.alone, fresh_flights g.P.Payload.same_as g.P.Payload.always_copies s fresh)
