use Rattle.std.proofs.Common.{ℕ, List, take, subst, sym, inl, inr, arith}
use Rattle.optimistic.specs.declared.drain.nexts.Pair.{Pair}
use Rattle.optimistic.specs.declared.tree.whole.Mark.{Mark}
use Rattle.optimistic.specs.tree.Runs.{behind}
use Rattle.optimistic.specs.tree.Wholes.{HasMore, IsCollected, mark_of}
use Rattle.optimistic.proofs.lemmas.tree.Anew.{dated_more, again_memory}
use Rattle.optimistic.proofs.lemmas.tree.Wholes.{collected_more}
use Rattle.optimistic.proofs.tree.get.Tree.collect_one.Goals as goal

pub returns-clause-collected : goal.returns-clause-collected
returns-clause-collected c start col =
    let from : ℕ = c.args.from in
    let last : ℕ = c.args.last in
    let n : ℕ = c.args.count in
    let old = c.args.marks.now.items in
    let r = c.in-Some.run' in
    let v = c.args.hand.now.me.0 in
    let w = c.look_on.new.hand.me.0 in
    let new = c.remember.new.marks.items in
    let more : HasMore old (mark_of r) new = subst (λ (m : Mark). HasMore old m new) c.mark_of.ensures c.in-Ok.ensures.more in
    subst (λ (l : List Pair). IsCollected new start (behind last r.next) l w) (sym c.put_all.ensures.pairs)
    (collected_more old new start from last c.fewer-places.result (take n c.args.out.now) (take r.count c.look_on.new.out) v w r col c.look_on.ensures.looks.since c.in-Some.ensures.run more)

pub look_on-requires-clause-room : goal.look_on-requires-clause-room
look_on-requires-clause-room c =
    let f = c.fewer-places.ensures in
    let room = c.requires.room in
    let some = c.requires.some in (
      elim f.2 [
        | inl e ↦ omega (arith, e, room)
        | inr e ↦ omega (arith, e, some)
      ],
      f.1,
    )

pub returns-in-Err-clause-alone : goal.returns-in-Err-clause-alone
returns-in-Err-clause-alone c = again_memory _ _ c.in-Err.ensures.memory

pub returns-clause-dated : goal.returns-clause-dated
returns-clause-dated c v since all =
    let old = c.args.marks.now.items in
    let new = c.remember.new.marks.items in
    let r = c.in-Some.run' in
    let more : HasMore old (mark_of r) new = subst (λ (m : Mark). HasMore old m new) c.mark_of.ensures c.in-Ok.ensures.more in
    dated_more old new r v c.args.hand.now.me.0 c.look_on.new.hand.me.0 since c.look_on.ensures.looks.since all c.in-Some.ensures.dated more
