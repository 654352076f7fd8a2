use Rattle.std.proofs.Common.{◌≡◌}
use Rattle.crossbeam_epoch.specs.world.Ending.{registered_below}
use Rattle.joint.proofs.engine.Engine.registered.Given as goal

abbrev pub invariant-loop-n : goal.invariant-loop-n
invariant-loop-n g l = l.registered ≡ registered_below l.self.nodes.collector l.n
