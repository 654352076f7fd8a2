use Rattle.std.proofs.Common.{ℕ, List, take, subst, sym}
use Rattle.optimistic.specs.declared.drain.nexts.Pair.{Pair}
use Rattle.optimistic.specs.declared.tree.whole.Mark.{Mark}
use Rattle.optimistic.specs.tree.RunsBack.{lowest}
use Rattle.optimistic.specs.tree.Wholes.{HasMore, mark_of}
use Rattle.optimistic.specs.tree.WholesBack.{IsCollectedBack}
use Rattle.optimistic.proofs.lemmas.tree.WholesBack.{collected_back_more}
use Rattle.optimistic.proofs.tree.get.Tree.back_collect_one.Goals as goal

pub returns-clause-collected : goal.returns-clause-collected
returns-clause-collected c to col =
    let from : ℕ = c.args.from in
    let first : ℕ = c.args.first in
    let n : ℕ = c.args.count in
    let old = c.args.marks.now.items in
    let r = c.in-Some.run' in
    let v = c.args.hand.now.me.0 in
    let w = c.back_look_by.new.hand.me.0 in
    let new = c.remember.new.marks.items in
    let more : HasMore old (mark_of r) new = subst (λ (m : Mark). HasMore old m new) c.mark_of.ensures c.in_ok-remember.ensures.more in
    subst (λ (l : List Pair). IsCollectedBack new (lowest first r.next) to l w) (sym c.put_all.ensures.pairs)
    (collected_back_more old new to from first c.fewer-places.result (take n c.args.out.now) (take r.count c.back_look_by.new.out) v w r col c.back_look_by.ensures.looks.since c.in-Some.ensures.run more)
