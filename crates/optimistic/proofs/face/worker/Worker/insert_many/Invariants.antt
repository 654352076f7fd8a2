use Rattle.std.specs.Prelude.{take}
use Rattle.optimistic.specs.face.Many.{PutAll}
use Rattle.optimistic.proofs.face.worker.Worker.insert_many.Given as goal

abbrev pub invariant-loop-place : goal.invariant-loop-place
invariant-loop-place g l = PutAll (take l.place l.pairs) l.initial.self l.self
