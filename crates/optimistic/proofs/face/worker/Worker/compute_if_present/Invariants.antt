use Rattle.optimistic.specs.face.Calls.{Saw}
use Rattle.optimistic.proofs.face.worker.Worker.compute_if_present.Given as goal

abbrev pub invariant-loop : goal.invariant-loop
invariant-loop g l = goal.F-IsAlwaysCallable g l.f × Saw l.initial.self l.self
