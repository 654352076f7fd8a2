use Rattle.optimistic.specs.tree.Trees.{IsTree}
use Rattle.optimistic.proofs.lemmas.words.Chains.{looks_keeps}
use Rattle.optimistic.proofs.lemmas.tree.Setting.{no_more, place_since}
use Rattle.optimistic.proofs.lemmas.tree.Holding.{locked_now, locked_since, both_of}
use Rattle.optimistic.proofs.tree.get.Tree.lock_both.Goals as goal

pub lock_below-requires-clause-above : goal.lock_below-requires-clause-above
lock_below-requires-clause-above c = locked_now c.args.above c.in-Had.version c.args.hand.now.me.0 c.try_lock.new.hand.me.0 c.try_lock.ensures.place c.in-Had.ensures.locking

pub lock_below-requires-clause-old : goal.lock_below-requires-clause-old
lock_below-requires-clause-old c =
    place_since c.args.old c.args.hand.now.me.0 c.try_lock.new.hand.me.0 (locked_since c.args.above.node c.in-Had.version c.args.hand.now.me.0 c.try_lock.new.hand.me.0 c.in-Had.ensures.locking) c.requires.old

pub returns-in-Had-clause-both : goal.returns-in-Had-clause-both
returns-in-Had-clause-both c =
    both_of c.args.above c.args.old c.in-Had.version c.lock_below.result c.args.hand.now.me.0 c.try_lock.new.hand.me.0 c.lock_below.new.hand.me.0 c.in-Had.ensures.locking c.lock_below.ensures.lower

pub returns-in-Busy-clause-both : goal.returns-in-Busy-clause-both
returns-in-Busy-clause-both c =
    let v = c.args.hand.now.me.0 in
    let u = c.try_lock.new.hand.me.0 in
    let t = c.in-Busy.ensures.locking in
    (looks_keeps IsTree v u t, t.since, no_more v u t.mine)

pub returns-in-Exhausted-clause-both : goal.returns-in-Exhausted-clause-both
returns-in-Exhausted-clause-both c =
    let v = c.args.hand.now.me.0 in
    let u = c.try_lock.new.hand.me.0 in
    let t = c.in-Exhausted.ensures.locking in
    (looks_keeps IsTree v u t.0, t.0.since, no_more v u t.0.mine, (c.args.above.node, t.1))
