use Rattle.std.proofs.Common.{◌∙◌, take}
use Rattle.optimistic.specs.tree.Trees.{IsTree}
use Rattle.optimistic.proofs.lemmas.tree.Alone.{disturbed_in, not_some}
use Rattle.optimistic.proofs.lemmas.tree.Runs.{told_from}
use Rattle.optimistic.proofs.lemmas.words.Chains.{later_keeps, later_trans, looks_keeps}
use Rattle.optimistic.proofs.lemmas.words.Moments.{since_refl, since_trans}
use Rattle.optimistic.proofs.tree.get.Tree.run_soon.Goals as goal

pub loop-attempt-preserved : goal.loop-attempt-preserved
loop-attempt-preserved c =
    let v = c.args.hand.now.me.0 in
    let u = c.loop-attempt.hand.me.0 in
    let w = c.try_run.new.hand.me.0 in
    let i = c.loop-attempt.invariant in
    let e = c.try_run.ensures in (
      e.of,
      later_trans v u w i.1 (looks_keeps IsTree u w e.looks).0,
      e.looks.mine ∙ i.2,
      since_trans v.seen u.seen w.seen i.3 e.looks.since,
      e.trail,
      e.same ∙ i.5,
      λ _. disturbed_in v.seen u.seen w.seen w.seen i.3 (not_some c.try_run.result _ c.in_default.not-Some e.alone) (since_refl w.seen),
    )

pub returns-in-Some-clause-since : goal.returns-in-Some-clause-since
returns-in-Some-clause-since c = since_trans c.args.hand.now.me.0.seen c.loop-attempt.hand.me.0.seen c.try_run.new.hand.me.0.seen c.loop-attempt.invariant.3 c.try_run.ensures.looks.since

pub returns-in-Some-clause-keeps : goal.returns-in-Some-clause-keeps
returns-in-Some-clause-keeps c =
    let v = c.args.hand.now.me.0 in
    let u = c.loop-attempt.hand.me.0 in
    let w = c.try_run.new.hand.me.0 in
    later_keeps v u w c.loop-attempt.invariant.1 (looks_keeps IsTree u w c.try_run.ensures.looks)

pub returns-in-Some-clause-told : goal.returns-in-Some-clause-told
returns-in-Some-clause-told c =
    told_from c.in-Some.run' c.args.from c.args.last c.args.places (take c.in-Some.run'.count c.try_run.new.out) c.args.hand.now.me.0 c.loop-attempt.hand.me.0 c.try_run.new.hand.me.0 c.loop-attempt.invariant.3 c.in-Some.ensures.told
