use Rattle.std.proofs.Common.{ℕ, ◌+◌, [], List, Option, subst, sym, ◌∙◌, take}
use Rattle.optimistic.specs.declared.tree.whole.Mark.{Mark}
use Rattle.optimistic.specs.tree.RunsBack.{lowest}
use Rattle.optimistic.specs.tree.WholesBack.{IsCollectedBack}
use Rattle.optimistic.proofs.lemmas.tree.Reading.{looks_trans}
use Rattle.optimistic.proofs.lemmas.tree.WholesBack.{collected_back_none}
use Rattle.optimistic.proofs.tree.get.Tree.back_collect.Goals as goal

pub loop-reached-init : goal.loop-reached-init
loop-reached-init c =
    let e = c.in_ok-reached.ensures in
    let last : ℕ = c.args.last in
    let v = c.args.hand.now.me.0 in (
      e.of,
      e.looks,
      e.order.1,
      e.order.2,
      e.same,
      e.collected (last + 1) (subst (λ (l : List Mark). IsCollectedBack l (last + 1) (last + 1) [] v) (sym c.requires.none) (collected_back_none (last + 1) v)),
      e.trail,
    )

pub returns-in_err-reached-2-clause-looks : goal.returns-in_err-reached-2-clause-looks
returns-in_err-reached-2-clause-looks c = looks_trans _ _ _ c.loop-reached.invariant.1 c.back_collect_one-in-loop-reached.ensures.looks

pub loop-reached-preserved : goal.loop-reached-preserved
loop-reached-preserved c =
    let i = c.loop-reached.invariant in
    let e = c.in_ok-reached-2.ensures in
    let v = c.loop-reached.hand.me.0 in (
      e.of,
      looks_trans _ _ _ i.1 e.looks,
      e.order.1,
      e.order.2,
      e.same ∙ i.4,
      e.collected (c.args.last + 1) (subst (λ (o : Option ℕ). IsCollectedBack c.loop-reached.marks.items (lowest c.args.start o) (c.args.last + 1) (take c.loop-reached.reached.count c.loop-reached.out) v) c.in-Some.is i.5),
      e.trail,
    )
