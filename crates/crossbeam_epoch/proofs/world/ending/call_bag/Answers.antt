use Rattle.std.proofs.Common.{◌≡◌, ◌<◌, ◌∙◌, ◌-◌, [], ap, arith, length}
use Rattle.crossbeam_epoch.proofs.lemmas.world.Endings.{some_jobs, no_jobs, one_less, fewer, first_after, given_is}
use Rattle.crossbeam_epoch.proofs.world.ending.call_bag.Goals as goal

pub loop-jobs-preserved : goal.loop-jobs-preserved
loop-jobs-preserved g c =
    let l = c.loop-jobs in
    let e = c.take_first-work in
    let some : 0 < length l.jobs = some_jobs l.jobs (c.loop-jobs-test.ensures) in
    record {
      next = rw c.settle.ensures l.invariant.next;
      waiting = rw (c.settle.ensures, e.ensures.rest) (one_less l.jobs l.tickets.waiting some ∙ l.invariant.waiting);
      cells = rw (c.perform.ensures.cells, e.ensures.rest) (first_after l.cells l.jobs e.result some e.ensures.first ∙ l.invariant.cells);
    }

pub loop-jobs-smaller : goal.loop-jobs-smaller
loop-jobs-smaller g c = rw c.take_first-work.ensures.rest (fewer c.loop-jobs.jobs (some_jobs c.loop-jobs.jobs (c.loop-jobs-test.ensures)))

pub returns : goal.returns
returns g c =
    let l = c.loop-jobs in
    let none : l.jobs ≡ [] = no_jobs l.jobs (c.loop-jobs-test.ensures) in
    let waits : l.tickets.waiting ≡ c.args.tickets.now.waiting - length c.args.jobs = omega (arith, ap length none, l.invariant.waiting) in
    record {
      count = given_is l.tickets c.args.tickets.now.next (c.args.tickets.now.waiting - length c.args.jobs) l.invariant.next waits;
      cells = rw none at l.invariant.cells;
    }
