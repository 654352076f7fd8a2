use Rattle.std.proofs.Common.{◌≡◌, replicate}
use Rattle.crossbeam_epoch.specs.world.Machine.{blank}
use Rattle.crossbeam_epoch.proofs.world.blanks.Given as goal

abbrev pub invariant-loop : goal.invariant-loop
invariant-loop g l = l.table.items ≡ replicate l.counter blank
