use Rattle.std.proofs.Common.{Some}
use Rattle.optimistic.specs.tree.Trees.{IsTree}
use Rattle.optimistic.proofs.lemmas.words.Chains.{looks_keeps, locks_keeps, later_trans}
use Rattle.optimistic.proofs.lemmas.words.Moments.{since_trans}
use Rattle.optimistic.proofs.lemmas.tree.Blank.{free_since}
use Rattle.optimistic.proofs.lemmas.tree.Setting.{back, no_more_from}
use Rattle.optimistic.proofs.lemmas.tree.Splitting.{outcome_later}
use Rattle.optimistic.proofs.tree.get.Tree.try_split.Goals as goal

pub split_locked-requires-clause-names : goal.split_locked-requires-clause-names
split_locked-requires-clause-names c =
    let l = c.in-Had.ensures.locking in
    let w = c.try_lock.new.hand.me.0 in
    free_since c.args.free.now l.u w (free_since c.args.free.now c.args.hand.now.me.0 l.u c.requires.names l.looks.since) l.locks.since

pub returns-in-Had-clause-since : goal.returns-in-Had-clause-since
returns-in-Had-clause-since c =
    let l = c.in-Had.ensures.locking in
    let v = c.args.hand.now.me.0 in
    let w = c.try_lock.new.hand.me.0 in
    let z = c.split_locked.new.hand.me.0 in
    since_trans v.seen l.u.seen z.seen l.looks.since (since_trans l.u.seen w.seen z.seen l.locks.since c.split_locked.ensures.since)

pub returns-in-Had-clause-set : goal.returns-in-Had-clause-set
returns-in-Had-clause-set c =
    let l = c.in-Had.ensures.locking in
    let v = c.args.hand.now.me.0 in
    let w = c.try_lock.new.hand.me.0 in
    outcome_later c.split_locked.result c.args.key (Some c.args.value) v w c.split_locked.new.hand.me.0 (later_trans v l.u w (looks_keeps IsTree v l.u l.looks).0 (locks_keeps IsTree c.args.at.node l.ver l.u w l.locks).0) c.split_locked.ensures.set

pub returns-in-Had-clause-no_more : goal.returns-in-Had-clause-no_more
returns-in-Had-clause-no_more c =
    let l = c.in-Had.ensures.locking in
    let v = c.args.hand.now.me.0 in
    let w = c.try_lock.new.hand.me.0 in
    let z = c.split_locked.new.hand.me.0 in
    no_more_from v l.u z l.looks.mine (back c.args.at.node l.u w z l.locks.mine c.split_locked.ensures.lets_go)

pub returns-in-Busy-clause-names : goal.returns-in-Busy-clause-names
returns-in-Busy-clause-names c = free_since c.args.free.now c.args.hand.now.me.0 c.try_lock.new.hand.me.0 c.requires.names c.in-Busy.ensures.locking.since

pub returns-in-Exhausted-clause-names : goal.returns-in-Exhausted-clause-names
returns-in-Exhausted-clause-names c = free_since c.args.free.now c.args.hand.now.me.0 c.try_lock.new.hand.me.0 c.requires.names c.in-Exhausted.ensures.locking.0.since
