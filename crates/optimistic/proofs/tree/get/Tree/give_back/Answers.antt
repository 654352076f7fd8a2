use Rattle.optimistic.proofs.lemmas.tree.Holding.{locked_same, let_mine}
use Rattle.optimistic.proofs.lemmas.words.Moments.{since_trans}
use Rattle.optimistic.proofs.tree.get.Tree.give_back.Goals as goal

pub let_go-requires-clause-locked : goal.let_go-requires-clause-locked
let_go-requires-clause-locked c =
    let e = c.args.nodes in
    let v = c.args.hand.now.me.0 in
    let u = c.let_two_go.new.hand.me.0 in
    let r = c.requires.ready in
    let own = let_mine e.above.at.node e.old.at.node e.new.at.node v u c.let_two_go.ensures.lets_go r.am r.nm r.new.held.mine in
    let o = c.let_two_go.ensures.others e.new.at.node own in
    locked_same e.new v u c.let_two_go.ensures.since own o.0 o.1 r.new

pub returns-clause-since : goal.returns-clause-since
returns-clause-since c = since_trans c.args.hand.now.me.0.seen c.let_two_go.new.hand.me.0.seen c.let_go.new.hand.me.0.seen c.let_two_go.ensures.since c.let_go.ensures.releases.since
