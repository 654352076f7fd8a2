use Rattle.std.proofs.Common.{◌≤◌, ◌-◌}
use Rattle.trial.specs.Versions.{Lists}
use Rattle.trial.proofs.examples.versions.store.Store.scan.Given as goal

abbrev pub invariant-loop-row : goal.invariant-loop-row
invariant-loop-row g l = Lists l.self.versions.pairs l.snapshot.stamp l.start l.from l.rows.items × (l.start ≤ l.from) × (l.from ≤ l.end)

abbrev pub decreases-loop-row : goal.decreases-loop-row
decreases-loop-row g l = l.end - l.from
