use Rattle.std.proofs.Common.{◌≡◌, None, replicate}
use Rattle.joint.proofs.world.log.no_requests.Given as goal

abbrev pub invariant-loop : goal.invariant-loop
invariant-loop g l = l.requests.items ≡ replicate l.counter None
