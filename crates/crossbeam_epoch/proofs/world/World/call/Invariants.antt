use Rattle.crossbeam_epoch.specs.world.Calls.{IsGoing}
use Rattle.crossbeam_epoch.proofs.world.World.call.Given as goal

abbrev pub invariant-loop : goal.invariant-loop
invariant-loop g l = IsGoing l.fn.self l.fn.who l.fn.op l.counter l.newest l.event l.self
