use Rattle.std.proofs.Common.{◌≡◌, ◌+◌, List, ℕ, [], length, ap, arith, rules, subst, sym, ◌∙◌}
use Rattle.trial.specs.Lockfree.Calls.{starts}
use Rattle.trial.proofs.Tallying.{calls_more, calls_none, kept_more}
use Rattle.trial.proofs.lockfree.worker.work.Goals as goal

pub loop-number-init : goal.loop-number-init
loop-number-init g c =
    let new = c.in_ok-worker.ensures.new in
    let none = c.none-made.ensures in record {
      index = c.in_ok-worker.ensures.index;
      made = calls_none c.args.calls c.args.place c.in_ok-worker.worker c.none-made.result none new;
      all = (let a = ap length none.0 in let b = none.1 in omega (arith, a, b));
    }

pub loop-number-preserved : goal.loop-number-preserved
loop-number-preserved g c =
    let i = c.loop-number.invariant in
    let kept = c.in_ok-keep.ensures in record {
      index = c.call.ensures.index ∙ i.index;
      made = calls_more c.args.calls c.args.place c.loop-number.number c.call.result c.loop-number.worker c.call.new.worker c.loop-number.made c.keep.new.self i.made c.call.ensures.called kept;
      all = kept_more c.call.result c.loop-number.made c.keep.new.self kept ∙ ap (λ n. n + 1) i.all;
    }
