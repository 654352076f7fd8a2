use Rattle.std.proofs.Common.{◌+◌, ◌-◌, ◌/◌, arith}
use Rattle.optimistic.proofs.lemmas.forms.Scans.{back_none, back_top}
use Rattle.optimistic.proofs.forms.gaps.last_set.Goals as goal

pub returns-then-last-gt0-clause-none : goal.returns-then-last-gt0-clause-none
returns-then-last-gt0-clause-none c = back_none c.args.masks.now c.loop-end.end c.last_in-last.result (c.args.to + 1) c.loop-end-test.true c.loop-end.invariant.1 c.last_in-last.ensures.none

pub returns-then-last-gt0-clause-set : goal.returns-then-last-gt0-clause-set
returns-then-last-gt0-clause-set c some =
    let bound = c.last_in-last.ensures.bound in
    back_top c.args.masks.now ((c.loop-end.end - 1) / 64) c.last_in-last.result c.if-last-gt0.true (omega (arith, bound)) (c.last_in-last.ensures.set c.if-last-gt0.true)

pub loop-end-preserved : goal.loop-end-preserved
loop-end-preserved c =
    let i = c.loop-end.invariant.0 in
    let t = c.loop-end-test.true in
    let zero = c.if-last-gt0.false in (
      omega (arith, i, t),
      λ k above below. back_none c.args.masks.now c.loop-end.end c.last_in-last.result (c.args.to + 1) t c.loop-end.invariant.1 c.last_in-last.ensures.none k (omega (arith, above, zero)) below,
    )
