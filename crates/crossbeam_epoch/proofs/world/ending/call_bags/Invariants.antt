use Rattle.std.proofs.Common.{◌≡◌, ◌-◌, length}
use Rattle.crossbeam_epoch.specs.world.Ending.{jobs_of, after_jobs}
use Rattle.crossbeam_epoch.proofs.world.ending.call_bags.Given as goal

abbrev pub invariant-loop-jobs : goal.invariant-loop-jobs
invariant-loop-jobs g l = record {
  next : l.tickets.next ≡ l.fn.tickets.next;
  waiting : l.tickets.waiting - length (jobs_of l.queue.items) ≡ l.fn.tickets.waiting - length (jobs_of l.fn.queue.items);
  cells : after_jobs l.cells (jobs_of l.queue.items) ≡ after_jobs l.fn.cells (jobs_of l.fn.queue.items);
}

abbrev pub decreases-loop-jobs : goal.decreases-loop-jobs
decreases-loop-jobs g l = length l.queue.items
