use Rattle.optimistic.proofs.lemmas.words.Chains.{later_trans}
use Rattle.optimistic.proofs.lemmas.tree.Setting.{set_later}
use Rattle.optimistic.proofs.tree.get.Tree.try_take.Goals as goal

pub returns-clause-set : goal.returns-clause-set
returns-clause-set c = let v = c.args.hand.now.me.0 in let u = c.reach.new.hand.me.0 in let s = c.stays-stays.new.hand.me.0 in
    set_later c.args.write.key c.args.write.value c.set_at.result v s c.set_at.new.hand.me.0 (later_trans v u s c.reach.ensures.keeps.0 c.stays-stays.ensures.keeps.0) c.set_at.ensures.set
