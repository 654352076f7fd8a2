use Rattle.optimistic.proofs.lemmas.tree.Blank.{free_since, free_same}
use Rattle.optimistic.proofs.tree.get.Tree.fresh_at_end.Goals as goal

pub returns-then-lack-clause-names : goal.returns-then-lack-clause-names
returns-then-lack-clause-names c = free_since c.lack.new.self c.args.hand.now.me.0 c.used.new.hand.me.0 (free_same c.args.free.now c.lack.new.self c.args.hand.now.me.0 c.lack.ensures c.requires.names) c.used.ensures.looks.since

pub returns-clause-names : goal.returns-clause-names
returns-clause-names c = free_since c.lack.new.self c.args.hand.now.me.0 c.carve_fresh.new.hand.me.0 (free_same c.args.free.now c.lack.new.self c.args.hand.now.me.0 c.lack.ensures c.requires.names) c.carve_fresh.ensures.since
