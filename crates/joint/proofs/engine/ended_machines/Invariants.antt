use Rattle.std.proofs.Common.{◌≡◌, replicate}
use Rattle.joint.specs.engine.Intact.{resting}
use Rattle.joint.proofs.engine.ended_machines.Given as goal

abbrev pub invariant-loop : goal.invariant-loop
invariant-loop g l = l.machines.items ≡ replicate l.counter resting
