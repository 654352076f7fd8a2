use Rattle.std.proofs.Common.{◌∙◌}
use Rattle.optimistic.proofs.lemmas.words.Moments.{inside_since, since_trans}
use Rattle.optimistic.proofs.lemmas.tree.Holding.{inside, some_word, second_word, held_same, version_same, let_mine}
use Rattle.optimistic.proofs.lemmas.tree.Exchanging.{may_drop}
use Rattle.optimistic.proofs.tree.get.Tree.abandon.Goals as goal

pub unlock-requires-clause-at : goal.unlock-requires-clause-at
unlock-requires-clause-at c =
    let e = c.args.nodes in
    let v = c.args.hand.now.me.0 in
    let u = c.let_two_go.new.hand.me.0 in
    let own = let_mine e.above.at.node e.old.at.node e.new.at.node v u c.let_two_go.ensures.lets_go c.requires.apart.1 c.requires.apart.2 c.requires.new.mine in
    (held_same e.new v u c.let_two_go.ensures.since own (c.let_two_go.ensures.others e.new.at.node own).0 c.requires.new).place.at

pub unlock-requires-clause-some : goal.unlock-requires-clause-some
unlock-requires-clause-some c = some_word c.args.nodes.new.at c.args.hand.now.me.0 c.requires.new.place

pub unlock-requires-clause-version : goal.unlock-requires-clause-version
unlock-requires-clause-version c =
    let e = c.args.nodes in
    let v = c.args.hand.now.me.0 in
    let u = c.let_two_go.new.hand.me.0 in
    let own = let_mine e.above.at.node e.old.at.node e.new.at.node v u c.let_two_go.ensures.lets_go c.requires.apart.1 c.requires.apart.2 c.requires.new.mine in
    (version_same e.new.at v u c.requires.new.place (c.let_two_go.ensures.others e.new.at.node own).0 ∙ c.requires.new.version, c.requires.new.bounded)

pub unlock-requires-clause-may : goal.unlock-requires-clause-may
unlock-requires-clause-may c =
    let e = c.args.nodes in
    let v = c.args.hand.now.me.0 in
    let u = c.let_two_go.new.hand.me.0 in
    let own = let_mine e.above.at.node e.old.at.node e.new.at.node v u c.let_two_go.ensures.lets_go c.requires.apart.1 c.requires.apart.2 c.requires.new.mine in
    let o = c.let_two_go.ensures.others e.new.at.node own in
    let i = inside e.new.at v 1 c.requires.new.place (second_word e.new.at v c.requires.new.place) in
    may_drop e.new.at.node u own (inside_since v.seen u.seen c.let_two_go.ensures.since e.new.at.node 1 i) (o.0 1 i ∙ c.requires.blank.0) (o.1 1 ∙ c.requires.blank.1)

pub returns-clause-since : goal.returns-clause-since
returns-clause-since c = since_trans c.args.hand.now.me.0.seen c.let_two_go.new.hand.me.0.seen c.unlock.new.hand.me.0.seen c.let_two_go.ensures.since c.unlock.ensures.unlocked.after
