use Rattle.optimistic.specs.tree.Trees.{IsTree}
use Rattle.optimistic.proofs.lemmas.words.Chains.{looks_keeps, locks_keeps, later_trans}
use Rattle.optimistic.proofs.lemmas.tree.Setting.{set_later, back, no_more_from}
use Rattle.optimistic.proofs.tree.get.Tree.set_at.Goals as goal

pub returns-in-Had-clause-set : goal.returns-in-Had-clause-set
returns-in-Had-clause-set c = let l = c.in-Had.ensures.locking in let v = c.args.hand.now.me.0 in let w = c.try_lock.new.hand.me.0 in
    set_later c.args.write.key c.args.write.value c.set_counted.result v w c.set_counted.new.hand.me.0
    (later_trans v l.u w (looks_keeps IsTree v l.u l.looks).0 (locks_keeps IsTree c.args.at.node l.ver l.u w l.locks).0) c.set_counted.ensures.set

pub returns-in-Had-clause-no_more : goal.returns-in-Had-clause-no_more
returns-in-Had-clause-no_more c = let l = c.in-Had.ensures.locking in let v = c.args.hand.now.me.0 in let w = c.try_lock.new.hand.me.0 in let z = c.set_counted.new.hand.me.0 in
    no_more_from v l.u z l.looks.mine (back c.args.at.node l.u w z l.locks.mine c.set_counted.ensures.lets_go)
