use Rattle.std.specs.Prelude.{◌≡◌}
use Rattle.optimistic.proofs.face.worker.Worker.leave.Given as goal

abbrev pub invariant-loop-attempt : goal.invariant-loop-attempt
invariant-loop-attempt l = l.self ≡ l.initial.self
