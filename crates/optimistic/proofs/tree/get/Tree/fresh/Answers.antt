use Rattle.optimistic.proofs.tree.get.Tree.fresh.Goals as goal

pub fresh_or-requires-clause-names : goal.fresh_or-requires-clause-names
fresh_or-requires-clause-names c = c.pop.ensures.names c.args.hand.now.me.0 c.requires.names

pub fresh_at_end-requires-clause-names : goal.fresh_at_end-requires-clause-names
fresh_at_end-requires-clause-names c = c.pop.ensures.names c.args.hand.now.me.0 c.requires.names
