use Rattle.std.proofs.Common.{refl, sym, None}
use Rattle.optimistic.specs.tree.Trees.{IsTree}
use Rattle.optimistic.proofs.lemmas.words.Chains.{releases_keeps}
use Rattle.optimistic.proofs.lemmas.tree.Holding.{some_word, settled_first, unlocks_made, replaces_keeps}
use Rattle.optimistic.proofs.lemmas.words.Moments.{since_trans}
use Rattle.optimistic.proofs.tree.get.Tree.settle_lift.Goals as goal

pub unlock-requires-clause-some : goal.unlock-requires-clause-some
unlock-requires-clause-some c = some_word c.args.above.at c.args.hand.now.me.0 c.requires.above.place

pub let_go-requires-clause-locked : goal.let_go-requires-clause-locked
let_go-requires-clause-locked c =
    settled_first c.args.old c.args.hand.now.me.0 c.unlock.new.hand.me.0 c.args.above.at.node _ c.unlock.ensures.unlocked (λ q. c.requires.apart (sym q)) c.requires.old refl

pub returns-clause-set : goal.returns-clause-set
returns-clause-set c =
    let v = c.args.hand.now.me.0 in
    let u = c.unlock.new.hand.me.0 in
    let w = c.let_go.new.hand.me.0 in
    let t = c.unlock.ensures.unlocked in
    replaces_keeps c.args.key None c.args.before v u w (unlocks_made c.args.above.at.node c.args.key None c.args.before _ v u refl t (c.requires.before t.b t.since t.held t.was))
    (releases_keeps IsTree c.args.old.at.node u w c.let_go.ensures.releases)

pub returns-clause-since : goal.returns-clause-since
returns-clause-since c = since_trans c.args.hand.now.me.0.seen c.unlock.new.hand.me.0.seen c.let_go.new.hand.me.0.seen c.unlock.ensures.unlocked.after c.let_go.ensures.releases.since
