use Rattle.optimistic.proofs.lemmas.words.Moments.{width_some, form_since}
use Rattle.optimistic.proofs.lemmas.tree.Blank.{free_since, result_later}
use Rattle.optimistic.proofs.tree.get.Tree.fresh_or.Goals as goal

pub returns-in-Some-clause-names : goal.returns-in-Some-clause-names
returns-in-Some-clause-names c = free_since c.args.free.now c.args.hand.now.me.0 c.take_free.new.hand.me.0 c.requires.names c.in-Some.ensures.taken.since

pub returns-in-None-clause-names : goal.returns-in-None-clause-names
returns-in-None-clause-names c = let v = c.args.hand.now.me.0 in let u = c.take_free.new.hand.me.0 in let w = c.carve_fresh.new.hand.me.0 in let s = c.in-None.ensures.taken.since in
    free_since c.give.new.self u w (c.give.ensures.names u (form_since c.args.node c.args.form v u (width_some c.args.form c.requires.form.0 c.requires.form.1) c.requires.at s) (free_since c.args.free.now v u c.requires.names s)) c.carve_fresh.ensures.since

pub returns-in-None-clause-fresh : goal.returns-in-None-clause-fresh
returns-in-None-clause-fresh c = result_later c.carve_fresh.result c.args.form c.args.hand.now.me.0 c.take_free.new.hand.me.0 c.carve_fresh.new.hand.me.0 c.in-None.ensures.taken c.carve_fresh.ensures.fresh
