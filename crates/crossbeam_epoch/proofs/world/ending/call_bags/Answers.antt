use Rattle.std.proofs.Common.{◌≡◌, ◌-◌, [], sym, ap, ◌∙◌, arith, length}
use Rattle.crossbeam_epoch.specs.world.Ending.{jobs_of, after_jobs}
use Rattle.crossbeam_epoch.proofs.lemmas.world.Endings.{bag_less, bag_after, fewer_bags, given_is}
use Rattle.crossbeam_epoch.proofs.world.ending.call_bags.Goals as goal

pub loop-jobs-preserved : goal.loop-jobs-preserved
loop-jobs-preserved g c =
    let l = c.loop-jobs in
    let b = c.in-Some.field-0 in
    let rest = c.pop_front.new.self.items in
    let front = c.in-Some.ensures in
    record {
      next = rw c.call_bag.ensures.count l.invariant.next;
      waiting = rw c.call_bag.ensures.count (bag_less b l.queue.items rest l.tickets.waiting front.items ∙ l.invariant.waiting);
      cells = rw c.call_bag.ensures.cells (bag_after l.cells b l.queue.items rest front.items ∙ l.invariant.cells);
    }

pub loop-jobs-smaller : goal.loop-jobs-smaller
loop-jobs-smaller g c = fewer_bags c.in-Some.field-0 c.loop-jobs.queue.items c.pop_front.new.self.items c.in-Some.ensures.items

pub returns : goal.returns
returns g c =
    let l = c.loop-jobs in
    let none : l.queue.items ≡ [] = c.in_default.ensures.items.0 in
    let no_job : length (jobs_of l.queue.items) ≡ 0 = ap (λ q. length (jobs_of q)) none in
    let waits : l.tickets.waiting ≡ c.args.tickets.now.waiting - length (jobs_of c.args.queue.items) = omega (arith, no_job, l.invariant.waiting) in
    record {
      count = given_is l.tickets c.args.tickets.now.next (c.args.tickets.now.waiting - length (jobs_of c.args.queue.items)) l.invariant.next waits;
      cells = sym (ap (λ q. after_jobs l.cells (jobs_of q)) none) ∙ l.invariant.cells;
    }
