use Rattle.optimistic.proofs.lemmas.tree.Blank.{made_later}
use Rattle.optimistic.proofs.lemmas.tree.Reading.{looks_trans}
use Rattle.optimistic.proofs.lemmas.words.Moments.{since_trans}
use Rattle.optimistic.proofs.tree.get.Tree.carve_fresh.Goals as goal

pub returns-in-Some-clause-since : goal.returns-in-Some-clause-since
returns-in-Some-clause-since c = since_trans c.args.hand.now.me.0.seen c.carve.new.hand.me.0.seen c.take_free.new.hand.me.0.seen c.carve.ensures.looks.since c.in-Some.ensures.taken.since

pub returns-in-Some-clause-fresh : goal.returns-in-Some-clause-fresh
returns-in-Some-clause-fresh c = made_later c.in-Some.fresh c.args.form c.args.hand.now.me.0 c.carve.new.hand.me.0 c.take_free.new.hand.me.0 c.carve.ensures.looks c.in-Some.ensures.taken

pub returns-in-None-clause-since : goal.returns-in-None-clause-since
returns-in-None-clause-since c = since_trans c.args.hand.now.me.0.seen c.carve.new.hand.me.0.seen c.take_free.new.hand.me.0.seen c.carve.ensures.looks.since c.in-None.ensures.taken.since

pub returns-in-None-clause-fresh : goal.returns-in-None-clause-fresh
returns-in-None-clause-fresh c = looks_trans c.args.hand.now.me.0 c.carve.new.hand.me.0 c.take_free.new.hand.me.0 c.carve.ensures.looks c.in-None.ensures.taken
