use Rattle.std.proofs.Common.{arith, length}
use Rattle.crossbeam_epoch.proofs.lemmas.world.Held.{all_taken, taken_below}
use Rattle.crossbeam_epoch.proofs.lemmas.world.Within.{free_at, taken_next}
use borrow.Author.Count.{falls}
use Rattle.crossbeam_epoch.proofs.world.World.free_place.Goals as goal

pub returns : goal.returns
returns g c = record {
  free = tt;
  below = λ q lt. all_taken c.args.self.now _ c.deref-place-items.result.now c.loop-n.n q c.self.view_is c.deref-place-items.ensures.value c.loop-n-test.false lt c.loop-n.invariant;
}

pub loop-n-init : goal.loop-n-init
loop-n-init g c = λ q lt. absurd (omega (arith, lt))

pub loop-n-smaller : goal.loop-n-smaller
loop-n-smaller g c = falls (length c.deref-place-items.result.now) c.loop-n.n c.loop-n-test.true

pub loop-n-preserved : goal.loop-n-preserved
loop-n-preserved g c = search taken_next

pub bounds-place-items-n : goal.bounds-place-items-n
bounds-place-items-n g c = c.loop-n-test.true

pub offset_bounds-place-items-n : goal.offset_bounds-place-items-n
offset_bounds-place-items-n g c = c.loop-n.auto.n-end

pub returns-then-free : goal.returns-then-free
returns-then-free g c = record {
  free = free_at c.args.self.now _ c.deref-place-items.result.now c.loop-n.n c.place-item.result c.self.view_is c.deref-place-items.ensures.value c.loop-n-test.true c.place-item.is c.if-free.true;
  below = λ q lt. taken_below c.args.self.now _ c.deref-place-items.result.now c.loop-n.n q c.self.view_is c.deref-place-items.ensures.value lt c.loop-n.invariant;
}
