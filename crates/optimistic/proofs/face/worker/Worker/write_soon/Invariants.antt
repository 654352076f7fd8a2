use Rattle.optimistic.specs.face.Calls.{Saw}
use Rattle.optimistic.proofs.face.worker.Worker.write_soon.Given as goal

abbrev pub invariant-loop : goal.invariant-loop
invariant-loop l = Saw l.initial.self l.self
