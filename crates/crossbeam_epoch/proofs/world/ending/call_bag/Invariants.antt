use Rattle.std.proofs.Common.{◌≡◌, ◌-◌, length}
use Rattle.crossbeam_epoch.specs.world.Ending.{after_jobs}
use Rattle.crossbeam_epoch.proofs.world.ending.call_bag.Given as goal

abbrev pub invariant-loop-jobs : goal.invariant-loop-jobs
invariant-loop-jobs g l = record {
  next : l.tickets.next ≡ l.fn.tickets.next;
  waiting : l.tickets.waiting - length l.jobs ≡ l.fn.tickets.waiting - length l.fn.jobs;
  cells : after_jobs l.cells l.jobs ≡ after_jobs l.fn.cells l.fn.jobs;
}

abbrev pub decreases-loop-jobs : goal.decreases-loop-jobs
decreases-loop-jobs g l = length l.jobs
