use Rattle.std.proofs.Common.{◌≡◌, ◌+◌, Ok, Some, ap, drop, length, subst, sym, ◌∙◌, List}
use Rattle.std.specs.Prelude.{slice_get}
use Rattle.std.proofs.lemmas.List.{length_push}
use Rattle.trial.specs.Lockfree.{AreWorked}
use Rattle.trial.specs.declared.lockfree.worker.Made.{Made}
use Rattle.trial.proofs.Keeping.{at_some, first_left, rest_left}
use Rattle.trial.proofs.Tallying.{worked_later, worked_pushed}
use Rattle.trial.proofs.lockfree.gathered.Goals as goal

pub heed-requires : goal.heed-requires
heed-requires c =
    let i = c.loop-one.invariant in
    let xs = c.args.worked.items in
    let seen = sym i.rest ∙ (at_some _ _ _ _ c.next.ensures.steps c.in-Some.is).0 in
    let at = first_left xs _ _ _ seen ∙ ap Some c.in_ok-own.was in
    c.requires.index (length c.loop-one.yielded) c.in_ok-own.field-0 at ∙ sym i.index

pub loop-one-preserved : goal.loop-one-preserved
loop-one-preserved c =
    let i = c.loop-one.invariant in
    let xs = c.args.worked.items in
    let seen = sym i.rest ∙ (at_some _ _ _ _ c.next.ensures.steps c.in-Some.is).0 in
    let more = length_push c.loop-one.yielded c.in-Some.one in
    let at = ap (λ n. slice_get xs n) i.len ∙ first_left xs _ _ _ seen ∙ ap Some c.in_ok-own.was in
    let one = c.in_ok-own.field-0 in
    let made = c.loop-one.made.items in
    let log = c.heed.new.self.seen in
    let pushed = c.in_ok-push.ensures.items in
    let looked = c.heed.ensures.looked in
    let later = worked_later c.args.calls made c.loop-one.last.seen log i.worked looked.0.3 in record {
      rest = rest_left xs _ _ _ seen ∙ ap (λ n. drop n xs) (sym more);
      len = ap length pushed ∙ length_push made _ ∙ ap (λ n. n + 1) i.len ∙ sym more;
      index = looked.0.0 ∙ i.index;
      worked = subst (λ (ms : List Made). AreWorked c.args.calls ms log) (sym pushed) (worked_pushed c.args.calls made one.made one.seen.seen log later (c.requires.worked (length made) one at) c.heed.ensures.heeds);
    }
