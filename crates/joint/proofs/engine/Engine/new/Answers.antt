use Rattle.joint.proofs.lemmas.calls.CensusSteps.{counted_first}
use Rattle.joint.proofs.lemmas.engine.Fresh.{intact, fresh}
use Rattle.joint.proofs.lemmas.calls.Runs.{standing_empty}
use Rattle.joint.proofs.engine.Engine.new.Goals as goal

pub returns : goal.returns
returns g c =
    (c.in_ok-nodes.ensures, (rw (c.in-Ok.ensures, c.in-Ok-idle_calls.ensures) (intact g.P.Payload.same_as g.P.Payload.always_copies c.cell_laws.ensures c.call_laws.ensures c.args.limits (g.A.Allocator.charged_of c.args.allocator) (g.A.Allocator.limit_of c.args.allocator) c.in_ok-nodes.nodes c.in_ok-nodes.ensures c.charged.ensures.sum), c.charged.ensures.sum), rw (c.in-Ok.ensures, c.in-Ok-idle_calls.ensures) (fresh g.P.Payload.same_as g.P.Payload.always_copies c.cell_laws.ensures c.call_laws.ensures c.args.limits (g.A.Allocator.charged_of c.args.allocator) (g.A.Allocator.limit_of c.args.allocator) c.in_ok-nodes.nodes c.in_ok-nodes.ensures c.charged.ensures.sum), rw c.in-Ok.ensures (counted_first c.in_ok-nodes.nodes c.args.limits.epoch.participants (standing_empty g.P.Payload.same_as g.P.Payload.always_copies _ c.in_ok-nodes.ensures.fresh.alone) c.new-census.result c.new-census.ensures))
