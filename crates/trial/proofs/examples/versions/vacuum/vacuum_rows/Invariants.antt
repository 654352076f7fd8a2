use Rattle.std.proofs.Common.{◌≡◌, ◌-◌, ◌^◌}
use Rattle.trial.specs.Versions.{Keeps}
use Rattle.trial.proofs.examples.versions.vacuum.vacuum_rows.Given as goal

abbrev pub invariant-loop-next : goal.invariant-loop-next
invariant-loop-next g l = Keeps l.oldest l.initial.versions.pairs l.versions.pairs × (l.versions.base ≡ l.initial.versions.base)

abbrev pub decreases-loop-next : goal.decreases-loop-next
decreases-loop-next g l = 2 ^ 32 - l.row
