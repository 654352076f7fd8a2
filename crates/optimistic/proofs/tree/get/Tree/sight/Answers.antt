use Rattle.std.proofs.Common.{Option, IfSome, inl, subst, arith}
use Rattle.optimistic.specs.declared.drain.nexts.Next.{Next}
use Rattle.optimistic.specs.declared.tree.next.Sight.{Sight}
use Rattle.optimistic.specs.tree.Asked.{IsTraced}
use Rattle.optimistic.specs.tree.Sights.{IsSight, Knows}
use Rattle.optimistic.proofs.lemmas.tree.Alone.{traced_first, traced_next, traced_none, traced_ends, traced_told, sight_dated, sight_knows}
use Rattle.optimistic.proofs.lemmas.tree.Reading.{looks_trans}
use Rattle.optimistic.proofs.lemmas.words.Moments.{since_refl}
use Rattle.optimistic.proofs.tree.get.Tree.sight.Goals as goal

pub loop-depth-init : goal.loop-depth-init
loop-depth-init c = (
  c.sight_at-sight.ensures.of,
  c.sight_at-sight.ensures.looks,
  c.sight_at-sight.ensures.sight,
  traced_first c.args.from c.sight_at-sight.result c.args.hand.now.me.0 c.sight_at-sight.new.hand.me.0 c.ranges.from.fits c.sight_at-sight.ensures.asked,
  c.sight_at-sight.ensures.dated,
)

pub loop-depth-preserved : goal.loop-depth-preserved
loop-depth-preserved c =
    let v = c.args.hand.now.me.0 in
    let u = c.loop-depth.hand.me.0 in
    let w = c.sight_at-sight-in-Down.new.hand.me.0 in
    let i = c.loop-depth.invariant in
    let known = subst (λ (o : Option Sight). IfSome o (λ x. IsSight x c.args.from u)) c.in-Some.is i.2 in
    let low = (subst (λ (n : Next). Knows c.args.from n u) c.in-Down.is known.below).level in (
      c.sight_at-sight-in-Down.ensures.of,
      looks_trans _ _ _ i.1 c.sight_at-sight-in-Down.ensures.looks,
      c.sight_at-sight-in-Down.ensures.sight,
      traced_next c.args.from c.loop-depth._depth c.in-Some.seen c.in-Down.below c.sight_at-sight-in-Down.result v u w c.in-Down.is low (subst (λ (o : Option Sight). IsTraced c.args.from c.loop-depth._depth o v u) c.in-Some.is i.3)
          c.sight_at-sight-in-Down.ensures.asked,
      sight_dated c.sight_at-sight-in-Down.result v.seen u.seen w.seen w.seen i.1.since c.sight_at-sight-in-Down.ensures.dated (since_refl w.seen),
    )

pub returns-in_default-next-clause-sought : goal.returns-in_default-next-clause-sought
returns-in_default-next-clause-sought c =
    let v = c.args.hand.now.me.0 in
    let u = c.loop-depth.hand.me.0 in
    traced_told c.args.from c.loop-depth._depth c.in-Some.seen v u c.in_default-next.not-Down (subst (λ (o : Option Sight). IsTraced c.args.from c.loop-depth._depth o v u) c.in-Some.is c.loop-depth.invariant.3)

pub returns-in_default-clause-sought : goal.returns-in_default-clause-sought
returns-in_default-clause-sought c = inl (traced_none c.args.from c.loop-depth._depth c.loop-depth.sight c.args.hand.now.me.0 c.loop-depth.hand.me.0 c.in_default.not-Some c.loop-depth.invariant.3)

pub returns-clause-sought : goal.returns-clause-sought
returns-clause-sought c = inl (traced_ends c.args.from c.loop-depth._depth c.loop-depth.sight c.args.hand.now.me.0 c.loop-depth.hand.me.0 (omega arith) (sight_knows c.args.from c.loop-depth.sight c.loop-depth.hand.me.0 c.loop-depth.invariant.2) c.loop-depth.invariant.3)
