use Rattle.optimistic.proofs.lemmas.tree.Blank.{free_since}
use Rattle.optimistic.proofs.lemmas.tree.Splitting.{outcome_later}
use Rattle.optimistic.proofs.tree.get.Tree.try_reshape.Goals as goal

pub returns-in_default-clause-names : goal.returns-in_default-clause-names
returns-in_default-clause-names c = free_since c.args.free.now c.args.hand.now.me.0 c.reach.new.hand.me.0 c.requires.names c.reach.ensures.since

pub branch_at-requires-clause-names : goal.branch_at-requires-clause-names
branch_at-requires-clause-names c = free_since c.args.free.now c.args.hand.now.me.0 c.reach.new.hand.me.0 c.requires.names c.reach.ensures.since

pub refit_at-requires-clause-names : goal.refit_at-requires-clause-names
refit_at-requires-clause-names c = free_since c.args.free.now c.args.hand.now.me.0 c.reach.new.hand.me.0 c.requires.names c.reach.ensures.since

pub refit_at-requires-in-Less-clause-names : goal.refit_at-requires-in-Less-clause-names
refit_at-requires-in-Less-clause-names c = free_since c.args.free.now c.args.hand.now.me.0 c.reach.new.hand.me.0 c.requires.names c.reach.ensures.since

pub returns-in-Branch-clause-set : goal.returns-in-Branch-clause-set
returns-in-Branch-clause-set c = outcome_later c.branch_at.result c.args.write.key c.args.write.value c.args.hand.now.me.0 c.reach.new.hand.me.0 c.branch_at.new.hand.me.0 c.reach.ensures.keeps.0 c.branch_at.ensures.set

pub returns-in-Room-clause-set : goal.returns-in-Room-clause-set
returns-in-Room-clause-set c = outcome_later c.refit_at.result c.args.write.key c.args.write.value c.args.hand.now.me.0 c.reach.new.hand.me.0 c.refit_at.new.hand.me.0 c.reach.ensures.keeps.0 c.refit_at.ensures.set

pub returns-in-Less-clause-set : goal.returns-in-Less-clause-set
returns-in-Less-clause-set c = outcome_later c.refit_at-in-Less.result c.args.write.key c.args.write.value c.args.hand.now.me.0 c.reach.new.hand.me.0 c.refit_at-in-Less.new.hand.me.0 c.reach.ensures.keeps.0 c.refit_at-in-Less.ensures.set
