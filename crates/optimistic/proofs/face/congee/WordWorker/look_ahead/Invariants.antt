use Rattle.optimistic.specs.face.Calls.{Saw}
use Rattle.optimistic.specs.tree.Trails.{AreKnown}
use Rattle.optimistic.proofs.face.congee.WordWorker.look_ahead.Given as goal

abbrev pub invariant-loop-step : goal.invariant-loop-step
invariant-loop-step g l = AreKnown l.ahead l.self.moment × Saw l.initial.self l.self
