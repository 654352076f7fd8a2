use Rattle.std.specs.Prelude.{◌≡◌, ◌+◌, ◌-◌, ◌≤◌, length, take, drop}
use Rattle.optimistic.specs.tree.Trails.{IsTrail}
use Rattle.optimistic.proofs.lemmas.face.ScanningBack.{IsSoFarBack}
use Rattle.optimistic.proofs.face.worker.Worker.range_rev_inclusive.Given as goal

abbrev pub invariant-loop-count : goal.invariant-loop-count
invariant-loop-count g l =
    IsSoFarBack (l.from + 1) (l.fn.last + 1) l.initial.self l.self (take l.count l.out) × (l.fn.start ≤ l.from) × (l.count ≤ length l.out) × (length l.out ≡ length l.initial.out) × (drop l.count l.out ≡ drop l.count l.initial.out)
    × IsTrail l.trail l.self.moment × (length l.pairs ≡ 64)

abbrev pub decreases-loop-count : goal.decreases-loop-count
decreases-loop-count g l = l.from - l.fn.start
