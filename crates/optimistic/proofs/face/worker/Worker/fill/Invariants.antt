use Rattle.std.specs.Prelude.{◌≡◌, ◌+◌, ◌-◌, ◌<◌, ◌≤◌, length, take, IfSome}
use Rattle.optimistic.specs.tree.Runs.{behind}
use Rattle.optimistic.specs.tree.Trails.{IsTrail}
use Rattle.optimistic.specs.face.Scans.{IsSoFar}
use Rattle.optimistic.proofs.face.worker.Worker.fill.Given as goal

abbrev pub invariant-loop-count : goal.invariant-loop-count
invariant-loop-count g l =
    IsSoFar l.fn.from (behind l.fn.last l.next) l.fn.self l.self (take l.count l.pairs) × (l.fn.from < behind l.fn.last l.next) × IfSome l.next (λ k. k ≤ l.fn.last) × (l.count ≤ l.fn.places) × (length l.pairs ≡ length l.fn.pairs) × IsTrail l.trail l.self.moment

abbrev pub decreases-loop-count : goal.decreases-loop-count
decreases-loop-count g l = l.fn.last + 1 - behind l.fn.last l.next
