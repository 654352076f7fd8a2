use Rattle.std.proofs.Common.{◌≡◌, ℕ, ◌+◌, ◌∙◌, length, take, rules, subst}
use Rattle.optimistic.specs.declared.tree.whole.Unscanned.TheVariants.{Again}
use Rattle.optimistic.specs.tree.Alone.{IsDisturbedIn}
use Rattle.optimistic.specs.tree.Sights.{Stood}
use Rattle.optimistic.specs.tree.Wholes.{IsRange}
use Rattle.optimistic.proofs.lemmas.tree.Alone.{disturbed_in}
use Rattle.optimistic.proofs.lemmas.tree.Anew.{again_is}
use Rattle.optimistic.proofs.lemmas.tree.Sights.{stood_from}
use Rattle.optimistic.proofs.lemmas.words.Chains.{later_trans}
use Rattle.optimistic.proofs.lemmas.words.Moments.{since_refl, since_trans}
use Rattle.optimistic.proofs.tree.get.Tree.whole_soon.Goals as goal

pub returns-in-Ok-clause-whole : goal.returns-in-Ok-clause-whole
returns-in-Ok-clause-whole c =
    let i = c.loop-attempt.invariant in
    let pairs = take c.in-Ok.count c.try_whole.new.out in
    stood_from (λ log. IsRange log c.args.start (c.args.last + 1) (length c.args.out.now) pairs) c.args.hand.now.me.0 c.loop-attempt.hand.me.0 c.try_whole.new.hand.me.0 i.3
    (subst (λ (z : ℕ). Stood (λ log. IsRange log c.args.start (c.args.last + 1) z pairs) c.loop-attempt.hand.me.0 c.try_whole.new.hand.me.0) i.4 c.in-Ok.ensures.whole)

pub loop-attempt-preserved : goal.loop-attempt-preserved
loop-attempt-preserved c =
    let v = c.args.hand.now.me.0 in
    let u = c.loop-attempt.hand.me.0 in
    let w = c.try_whole.new.hand.me.0 in
    let i = c.loop-attempt.invariant in
    let again : c.in-Err-Again.field-0 ≡ Again = search rules in
    let e = c.in-Err-Again.ensures in (
      e.of,
      later_trans v u w i.1 e.keeps.0,
      e.mine ∙ i.2,
      since_trans v.seen u.seen w.seen i.3 e.since,
      e.same ∙ i.4,
      λ _. disturbed_in v.seen u.seen w.seen w.seen i.3 (again_is c.in-Err-Again.field-0 (IsDisturbedIn u.seen w.seen) again e.alone) (since_refl w.seen),
    )

pub returns-in-Ok-clause-since : goal.returns-in-Ok-clause-since
returns-in-Ok-clause-since c = since_trans c.args.hand.now.me.0.seen c.loop-attempt.hand.me.0.seen c.try_whole.new.hand.me.0.seen c.loop-attempt.invariant.3 c.try_whole.ensures.since
