use Rattle.std.proofs.Common.{length, ◌+◌, arith, ap, sym, ◌∙◌, subst}
use Rattle.std.proofs.lemmas.List.{length_push}
use Rattle.trial.specs.Histories.{AreCalls, call_at}
use Rattle.trial.proofs.Counting.{writes_step}
use Rattle.trial.proofs.Keeping.{calls_pushed}
use Rattle.trial.proofs.worker.Caller.work.Goals as goal

pub loop-number-preserved : goal.loop-number-preserved
loop-number-preserved g c =
    let i = c.loop-number.invariant in
    let pushed = c.in_ok-push.ensures.items in
    let place = c.args.self.place in
    let made = c.in_ok-call_pinned.ensures.made ∙ ap (λ p. call_at c.args.calls p c.loop-number.number) i.place ∙ ap (λ n. call_at c.args.calls place n) (sym i.all) in record {
      place = c.call_pinned.ensures.place ∙ i.place;
      made = subst (AreCalls c.args.calls place) (sym pushed) (calls_pushed c.args.calls place c.loop-number.own.items _ i.made made);
      all = ap length pushed ∙ length_push c.loop-number.own.items _ ∙ ap (λ n. n + 1) i.all;
      parts = c.in_ok-call_pinned.ensures.parts ∙ i.parts;
      count = (let a = c.in_ok-call_pinned.ensures.counted in let b = i.count in let step = writes_step c.loop-number.number in omega (arith, a, b, step));
    }
