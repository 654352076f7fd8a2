use Rattle.std.proofs.Common.{◌≡◌}
use Rattle.crossbeam_epoch.specs.face.Pins.{IsDue}
use Rattle.crossbeam_epoch.specs.face.Queue.{IsTaken}
use Rattle.crossbeam_epoch.proofs.face.collector.Collector.call_others.Given as goal

abbrev pub invariant-loop : goal.invariant-loop
invariant-loop g l = record {
  due : IsDue l.seen l.called.newest;
  taken : IsTaken l.seen l.counter l.called;
  attempt : l.called.attempt ≡ l.fn.first.attempt;
}
