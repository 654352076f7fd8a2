use Rattle.std.proofs.Common.{◌≡◌, replicate}
use Rattle.crossbeam_epoch.specs.world.Machine.{null}
use Rattle.crossbeam_epoch.proofs.world.nulls.Given as goal

abbrev pub invariant-loop : goal.invariant-loop
invariant-loop l = l.all.items ≡ replicate l.counter null
