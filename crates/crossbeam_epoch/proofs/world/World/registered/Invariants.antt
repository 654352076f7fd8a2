use Rattle.std.proofs.Common.{◌≡◌, ◌≤◌}
use Rattle.crossbeam_epoch.specs.world.Ending.{registered_below}
use Rattle.crossbeam_epoch.proofs.world.World.registered.Given as goal

abbrev pub invariant-loop-n : goal.invariant-loop-n
invariant-loop-n g l = record {
  count : l.registered ≡ registered_below l.self l.n;
  few : l.registered ≤ l.n;
}
