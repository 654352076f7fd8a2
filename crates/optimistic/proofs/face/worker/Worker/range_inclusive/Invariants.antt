use Rattle.std.specs.Prelude.{◌≡◌, ◌-◌, ◌≤◌, length, take, drop}
use Rattle.optimistic.specs.tree.Trails.{IsTrail}
use Rattle.optimistic.specs.face.Scans.{IsSoFar}
use Rattle.optimistic.proofs.face.worker.Worker.range_inclusive.Given as goal

abbrev pub invariant-loop-count : goal.invariant-loop-count
invariant-loop-count g l =
    IsSoFar l.fn.start l.from l.initial.self l.self (take l.count l.out) × (l.from ≤ l.fn.last) × (l.count ≤ length l.out) × (length l.out ≡ length l.initial.out) × (drop l.count l.out ≡ drop l.count l.initial.out)
    × IsTrail l.trail l.self.moment × (length l.pairs ≡ 64)

abbrev pub decreases-loop-count : goal.decreases-loop-count
decreases-loop-count g l = l.fn.last - l.from
