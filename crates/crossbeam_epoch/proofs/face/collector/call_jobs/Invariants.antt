use Rattle.std.proofs.Common.{◌≡◌, ◌-◌, length}
use Rattle.crossbeam_epoch.proofs.face.collector.call_jobs.Given as goal

abbrev pub invariant-loop-work : goal.invariant-loop-work
invariant-loop-work g l = record {
  bag : length l.jobs ≡ l.opened.jobs;
  same : l.opened ≡ record l.fn.opened { taken = l.opened.taken };
}

abbrev pub decreases-loop-work : goal.decreases-loop-work
decreases-loop-work g l = l.opened.jobs - l.opened.taken
