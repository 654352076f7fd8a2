use Rattle.std.proofs.Common.{length, ◌+◌, ◌*◌, arith, Some, ap, sym, ◌∙◌, subst, drop}
use Rattle.std.specs.Prelude.{slice_get}
use Rattle.std.proofs.lemmas.List.{length_push}
use Rattle.joint.specs.threads.Shares.{ShareView}
use Rattle.trial.specs.Histories.{AreKept, writes_in}
use Rattle.trial.proofs.Counting.{times_more}
use Rattle.trial.proofs.Keeping.{at_some, kept_pushed, first_left, rest_left}
use Rattle.trial.proofs.threads.own.Goals as goal

pub loop-one-preserved : goal.loop-one-preserved
loop-one-preserved g c =
    let i = c.loop-one.invariant in
    let xs = c.args.worked.items in
    let seen = sym i.rest ∙ (at_some _ _ _ _ c.next.ensures.steps c.in-Some.is).0 in
    let more = length_push c.loop-one.yielded c.in-Some.one in
    let at = ap (λ n. slice_get xs n) i.len ∙ first_left xs _ _ _ seen ∙ ap Some c.in_ok-share.was in
    let pushed = c.in_ok-push.ensures.items in
    let merged = c.merge.ensures in
    let shares = c.requires.shares (length c.loop-one.own.items) c.in_ok-share.field-0 at in
    let each = shares.1 in
    let part = shares.0 in record {
      rest = rest_left xs _ _ _ seen ∙ ap (λ n. drop n xs) (sym more);
      len = ap length pushed ∙ length_push c.loop-one.own.items _ ∙ ap (λ n. n + 1) i.len ∙ sym more;
      kept = subst (AreKept c.args.calls) (sym pushed) (kept_pushed c.args.calls c.loop-one.own.items _ i.kept (c.requires.worked (length c.loop-one.own.items) c.in_ok-share.field-0 at));
      parts = (let a = ap (λ (t : ShareView). t.parts) merged in let b = i.parts in omega (arith, a, b, part, more));
      count = (let a = ap (λ (t : ShareView). t.count) merged in let b = i.count in
          let all = ap (λ n. n * writes_in c.args.calls) more ∙ times_more (length c.loop-one.yielded) (writes_in c.args.calls) in
          omega (arith, a, b, each, all));
    }
