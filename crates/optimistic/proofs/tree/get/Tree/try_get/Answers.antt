use Rattle.std.proofs.Common.{◌∙◌, subst, arith}
use Rattle.optimistic.specs.declared.tree.place.Look.{Look}
use Rattle.optimistic.specs.tree.Alone.{IsFollowed}
use Rattle.optimistic.proofs.lemmas.tree.Alone.{followed_first, followed_next, followed_again, followed_ends}
use Rattle.optimistic.proofs.lemmas.words.Chains.{later_keeps}
use Rattle.optimistic.proofs.lemmas.words.Moments.{since_trans}
use Rattle.optimistic.proofs.tree.get.Tree.try_get.Goals as goal

pub loop-depth-init : goal.loop-depth-init
loop-depth-init c = (
  c.look-next.ensures.of,
  c.look-next.ensures.keeps,
  c.look-next.ensures.mine,
  c.look-next.ensures.since,
  c.look-next.ensures.look,
  followed_first c.args.key c.look-next.result c.args.hand.now.me.0 c.look-next.new.hand.me.0 c.ranges.key.fits c.look-next.ensures.seen,
)

pub loop-depth-preserved : goal.loop-depth-preserved
loop-depth-preserved c =
    let v = c.args.hand.now.me.0 in
    let u = c.loop-depth.hand.me.0 in
    let w = c.look-next-in-Down.new.hand.me.0 in
    let i = c.loop-depth.invariant in (
      c.look-next-in-Down.ensures.of,
      later_keeps v u w i.1.0 c.look-next-in-Down.ensures.keeps,
      c.look-next-in-Down.ensures.mine ∙ i.2,
      since_trans v.seen u.seen w.seen i.3 c.look-next-in-Down.ensures.since,
      c.look-next-in-Down.ensures.look,
      followed_next c.args.key c.loop-depth._depth c.in-Down.at c.look-next-in-Down.result v u w (omega arith) (subst (λ (l : Look). IsFollowed c.args.key c.loop-depth._depth l v u) c.in-Down.is i.5) c.look-next-in-Down.ensures.seen,
    )

pub returns-in-Again-clause-alone : goal.returns-in-Again-clause-alone
returns-in-Again-clause-alone c =
    let v = c.args.hand.now.me.0 in
    let u = c.loop-depth.hand.me.0 in
    followed_again c.args.key c.loop-depth._depth v u (subst (λ (l : Look). IsFollowed c.args.key c.loop-depth._depth l v u) c.in-Again.is c.loop-depth.invariant.5)

pub returns-clause-alone : goal.returns-clause-alone
returns-clause-alone c = followed_ends c.args.key c.loop-depth._depth c.loop-depth.next c.args.hand.now.me.0 c.loop-depth.hand.me.0 (omega arith) c.loop-depth.invariant.4 c.loop-depth.invariant.5
