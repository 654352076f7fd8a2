use Rattle.optimistic.specs.face.Calls.{Saw}
use Rattle.optimistic.proofs.face.worker.Worker.write.Given as goal

abbrev pub invariant-loop : goal.invariant-loop
invariant-loop g l = Saw l.initial.self l.self
