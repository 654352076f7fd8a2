use Rattle.std.proofs.Common.{sym}
use Rattle.optimistic.proofs.lemmas.words.Moments.{since_trans}
use Rattle.optimistic.proofs.lemmas.tree.Holding.{locked_release, let_others}
use Rattle.optimistic.proofs.tree.get.Tree.let_two_go.Goals as goal

pub let_go-requires-2-clause-locked : goal.let_go-requires-2-clause-locked
let_go-requires-2-clause-locked c = locked_release c.args.old c.args.hand.now.me.0 c.let_go.new.hand.me.0 c.args.above.at.node c.let_go.ensures.releases (λ q. c.requires.apart (sym q)) c.requires.old

pub returns-clause-since : goal.returns-clause-since
returns-clause-since c = since_trans c.args.hand.now.me.0.seen c.let_go.new.hand.me.0.seen c.let_go-2.new.hand.me.0.seen c.let_go.ensures.releases.since c.let_go-2.ensures.releases.since

pub returns-clause-others : goal.returns-clause-others
returns-clause-others c = let_others c.args.above.at.node c.args.old.at.node c.args.hand.now.me.0 c.let_go.new.hand.me.0 c.let_go-2.new.hand.me.0 c.let_go.ensures.releases c.let_go-2.ensures.releases
