use Rattle.std.proofs.Common.{◌≤◌, length}
use Rattle.crossbeam_epoch.proofs.face.collector.call_bags.Given as goal

abbrev pub invariant-loop-bag : goal.invariant-loop-bag
invariant-loop-bag g l = l.opened.jobs ≤ l.opened.taken

abbrev pub decreases-loop-bag : goal.decreases-loop-bag
decreases-loop-bag g l = length l.queue.bags.items
