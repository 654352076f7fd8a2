use Rattle.std.proofs.Common.{Option, IfSome, inl, subst, arith}
use Rattle.optimistic.specs.declared.drain.nexts.Next.{Next}
use Rattle.optimistic.specs.declared.tree.last.BackSight.{BackSight}
use Rattle.optimistic.specs.tree.Asked.{IsTraced, sight_in}
use Rattle.optimistic.specs.tree.Sights.{IsBackSight, Knows}
use Rattle.optimistic.proofs.lemmas.tree.Alone.{traced_first, traced_next, traced_none, traced_ends, traced_told, back_none, back_knows}
use Rattle.optimistic.proofs.lemmas.tree.Reading.{looks_trans}
use Rattle.optimistic.proofs.tree.get.Tree.back_sight.Goals as goal

pub loop-depth-init : goal.loop-depth-init
loop-depth-init c = (
  c.back_sight_at-back.ensures.of,
  c.back_sight_at-back.ensures.looks,
  c.back_sight_at-back.ensures.sight,
  traced_first c.args.to (sight_in c.back_sight_at-back.result) c.args.hand.now.me.0 c.back_sight_at-back.new.hand.me.0 c.ranges.to.fits c.back_sight_at-back.ensures.asked,
)

pub loop-depth-preserved : goal.loop-depth-preserved
loop-depth-preserved c =
    let v = c.args.hand.now.me.0 in
    let u = c.loop-depth.hand.me.0 in
    let w = c.back_sight_at-back-in-Down.new.hand.me.0 in
    let i = c.loop-depth.invariant in
    let known = subst (λ (o : Option BackSight). IfSome o (λ b. IsBackSight c.args.to b u)) c.in-Some.is i.2 in
    let low = (subst (λ (n : Next). Knows c.in-Some.seen.from n u) c.in-Down.is known.1.below).level in (
      c.back_sight_at-back-in-Down.ensures.of,
      looks_trans _ _ _ i.1 c.back_sight_at-back-in-Down.ensures.looks,
      c.back_sight_at-back-in-Down.ensures.sight,
      traced_next c.args.to c.loop-depth._depth c.in-Some.seen.sight c.in-Down.below (sight_in c.back_sight_at-back-in-Down.result) v u w c.in-Down.is low (subst (λ (o : Option BackSight). IsTraced c.args.to c.loop-depth._depth (sight_in o) v u) c.in-Some.is i.3)
          c.back_sight_at-back-in-Down.ensures.asked,
    )

pub returns-in_default-next-clause-sought : goal.returns-in_default-next-clause-sought
returns-in_default-next-clause-sought c =
    let v = c.args.hand.now.me.0 in
    let u = c.loop-depth.hand.me.0 in
    traced_told c.args.to c.loop-depth._depth c.in-Some.seen.sight v u c.in_default-next.not-Down (subst (λ (o : Option BackSight). IsTraced c.args.to c.loop-depth._depth (sight_in o) v u) c.in-Some.is c.loop-depth.invariant.3)

pub returns-in_default-clause-sought : goal.returns-in_default-clause-sought
returns-in_default-clause-sought c = inl (traced_none c.args.to c.loop-depth._depth (sight_in c.loop-depth.back) c.args.hand.now.me.0 c.loop-depth.hand.me.0 (back_none c.loop-depth.back c.in_default.not-Some) c.loop-depth.invariant.3)

pub returns-clause-sought : goal.returns-clause-sought
returns-clause-sought c = inl (traced_ends c.args.to c.loop-depth._depth (sight_in c.loop-depth.back) c.args.hand.now.me.0 c.loop-depth.hand.me.0 (omega arith) (back_knows c.args.to c.loop-depth.back c.loop-depth.hand.me.0 c.loop-depth.invariant.2) c.loop-depth.invariant.3)
