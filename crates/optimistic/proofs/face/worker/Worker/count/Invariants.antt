use Rattle.std.specs.Prelude.{◌≡◌, ◌-◌, ◌≤◌, length}
use Rattle.optimistic.specs.tree.Trails.{IsTrail}
use Rattle.optimistic.proofs.lemmas.face.Scanning.{IsCounted}
use Rattle.optimistic.proofs.face.worker.Worker.count.Given as goal

abbrev pub invariant-loop-next : goal.invariant-loop-next
invariant-loop-next g l = IsCounted l.fn.start l.from l.count l.initial.self l.self × (l.from ≤ l.fn.last) × IsTrail l.trail l.self.moment × (length l.pairs ≡ 64)

abbrev pub decreases-loop-next : goal.decreases-loop-next
decreases-loop-next g l = l.fn.last - l.from
