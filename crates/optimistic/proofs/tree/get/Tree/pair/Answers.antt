use Rattle.optimistic.proofs.lemmas.tree.Reading.{looks_trans, steady_since, steady_until}
use Rattle.optimistic.proofs.lemmas.words.Moments.{tells_since}
use Rattle.optimistic.proofs.tree.get.Tree.pair.Goals as goal

pub returns-clause-looks : goal.returns-clause-looks
returns-clause-looks c = looks_trans _ _ _ c.read-first.ensures.looks c.read-second.ensures.looks

pub returns-clause-tells : goal.returns-clause-tells
returns-clause-tells c = tells_since c.read-first.result c.read-first.new.hand.me.0 c.read-second.new.hand.me.0 (c.read-first.ensures.tells c.requires.link) c.read-second.ensures.looks.since

pub returns-clause-first : goal.returns-clause-first
returns-clause-first c = steady_until c.args.node c.args.form c.args.word c.read-first.result _ c.read-first.new.hand.me.0 c.read-second.new.hand.me.0 c.read-first.ensures.steady c.read-second.ensures.looks.since

pub returns-clause-second : goal.returns-clause-second
returns-clause-second c = steady_since c.args.node c.args.form _ c.read-second.result c.args.hand.now.me.0 c.read-first.new.hand.me.0 _ c.read-second.ensures.steady c.read-first.ensures.looks
