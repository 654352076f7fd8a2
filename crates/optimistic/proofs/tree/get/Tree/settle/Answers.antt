use Rattle.std.proofs.Common.{refl, sym}
use Rattle.optimistic.specs.tree.Trees.{IsTree}
use Rattle.optimistic.proofs.lemmas.words.Chains.{later_keeps, releases_keeps}
use Rattle.optimistic.proofs.lemmas.tree.Holding.{some_word, settled_first, settled_second, locked_release, unlocks_made, replaces_keeps}
use Rattle.optimistic.proofs.lemmas.words.Moments.{since_trans}
use Rattle.optimistic.proofs.tree.get.Tree.settle.Goals as goal

pub unlock-requires-clause-some : goal.unlock-requires-clause-some
unlock-requires-clause-some c = some_word c.args.nodes.above.at c.args.hand.now.me.0 c.requires.above.place

pub let_go-requires-clause-locked : goal.let_go-requires-clause-locked
let_go-requires-clause-locked c =
    settled_first c.args.nodes.old c.args.hand.now.me.0 c.unlock.new.hand.me.0 c.args.nodes.above.at.node _ c.unlock.ensures.unlocked (λ q. c.requires.apart.0 (sym q)) c.requires.old refl

pub let_go-requires-2-clause-locked : goal.let_go-requires-2-clause-locked
let_go-requires-2-clause-locked c =
    let e = c.args.nodes in
    locked_release e.new c.unlock.new.hand.me.0 c.let_go.new.hand.me.0 e.old.at.node c.let_go.ensures.releases (λ q. c.requires.apart.2 (sym q))
    (settled_second e.new c.args.hand.now.me.0 c.unlock.new.hand.me.0 e.above.at.node e.old.at.node _ c.unlock.ensures.unlocked (λ q. c.requires.apart.1 (sym q)) (λ q. c.requires.apart.2 (sym q)) c.requires.new refl refl)

pub returns-clause-set : goal.returns-clause-set
returns-clause-set c =
    let e = c.args.nodes in
    let v = c.args.hand.now.me.0 in
    let u = c.unlock.new.hand.me.0 in
    let x = c.let_go.new.hand.me.0 in
    let w = c.let_go-2.new.hand.me.0 in
    let t = c.unlock.ensures.unlocked in
    replaces_keeps e.write.key c.args.nodes.write.value c.args.before v u w (unlocks_made e.above.at.node e.write.key c.args.nodes.write.value c.args.before _ v u refl t (c.requires.before t.b t.since t.held t.was))
    (later_keeps u x w (releases_keeps IsTree e.old.at.node u x c.let_go.ensures.releases).0 (releases_keeps IsTree e.new.at.node x w c.let_go-2.ensures.releases))

pub returns-clause-since : goal.returns-clause-since
returns-clause-since c =
    let v = c.args.hand.now.me.0 in
    let u = c.unlock.new.hand.me.0 in
    let x = c.let_go.new.hand.me.0 in
    let w = c.let_go-2.new.hand.me.0 in
    since_trans v.seen u.seen w.seen c.unlock.ensures.unlocked.after (since_trans u.seen x.seen w.seen c.let_go.ensures.releases.since c.let_go-2.ensures.releases.since)
