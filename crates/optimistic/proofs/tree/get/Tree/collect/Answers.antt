use Rattle.std.proofs.Common.{ℕ, [], List, Option, subst, sym, ◌∙◌, take, arith}
use Rattle.optimistic.specs.declared.tree.whole.Mark.{Mark}
use Rattle.optimistic.specs.tree.Runs.{behind}
use Rattle.optimistic.specs.tree.Wholes.{AreDated, IsCollected}
use Rattle.optimistic.specs.tree.Alone.{IsDisturbedIn}
use Rattle.optimistic.proofs.lemmas.tree.Alone.{disturbed_in}
use Rattle.optimistic.proofs.lemmas.tree.Anew.{dated_none, again_map}
use Rattle.optimistic.proofs.lemmas.tree.Reading.{looks_trans}
use Rattle.optimistic.proofs.lemmas.tree.Wholes.{collected_none}
use Rattle.optimistic.proofs.lemmas.words.Moments.{since_refl}
use Rattle.optimistic.proofs.tree.get.Tree.collect.Goals as goal

pub loop-reached-init : goal.loop-reached-init
loop-reached-init c =
    let e = c.in_ok-reached.ensures in
    let start : ℕ = c.args.start in
    let v = c.args.hand.now.me.0 in (
      e.of,
      e.looks,
      e.order.1,
      e.order.2,
      e.same,
      e.collected start (subst (λ (l : List Mark). IsCollected l start start [] v) (sym c.requires.none) (collected_none start v)),
      e.trail,
      (let b = e.buffer in omega (arith, b)),
      e.dated v (since_refl v.seen) (subst (λ (l : List Mark). AreDated l v v) (sym c.requires.none) (dated_none v)),
    )

pub returns-in-Err-clause-looks : goal.returns-in-Err-clause-looks
returns-in-Err-clause-looks c = looks_trans _ _ _ c.loop-reached.invariant.1 c.collect_one-more.ensures.looks

pub loop-reached-preserved : goal.loop-reached-preserved
loop-reached-preserved c =
    let i = c.loop-reached.invariant in
    let e = c.in-Ok.ensures in
    let v = c.loop-reached.hand.me.0 in (
      e.of,
      looks_trans _ _ _ i.1 e.looks,
      e.order.1,
      e.order.2,
      e.same ∙ i.4,
      e.collected c.args.start (subst (λ (o : Option ℕ). IsCollected c.loop-reached.marks.items c.args.start (behind c.args.last o) (take c.loop-reached.reached.count c.loop-reached.out) v) c.in-Some.is i.5),
      e.trail,
      (let b = e.buffer in let n = i.7 in omega (arith, b, n)),
      e.dated c.args.hand.now.me.0 i.1.since i.8,
    )

pub returns-in-Err-clause-alone : goal.returns-in-Err-clause-alone
returns-in-Err-clause-alone c =
    let v = c.args.hand.now.me.0.seen in
    let u = c.loop-reached.hand.me.0.seen in
    let w = c.collect_one-more.new.hand.me.0.seen in
    again_map _ _ _ (λ (d : IsDisturbedIn u w). disturbed_in v u w w c.loop-reached.invariant.1.since d (since_refl w)) c.in-Err.ensures.alone
