use Rattle.std.proofs.Common.{◌≡◌, replicate}
use Rattle.joint.specs.declared.engine.in_flight.InFlight.TheVariants.{Idle}
use Rattle.joint.proofs.engine.idle_calls.Given as goal

abbrev pub invariant-loop : goal.invariant-loop
invariant-loop g l = l.calls.items ≡ replicate l.counter Idle
