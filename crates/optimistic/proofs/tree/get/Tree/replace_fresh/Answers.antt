use Rattle.optimistic.specs.tree.Trees.{IsTree}
use Rattle.optimistic.proofs.lemmas.words.Chains.{later_keeps, looks_keeps}
use Rattle.optimistic.proofs.lemmas.words.Moments.{since_trans, uncarved_since}
use Rattle.optimistic.proofs.lemmas.tree.Blank.{free_since}
use Rattle.optimistic.proofs.lemmas.tree.Setting.{set_later}
use Rattle.optimistic.proofs.lemmas.tree.Holding.{locked_looks, two_gone, three_gone}
use Rattle.optimistic.proofs.lemmas.tree.Making.{ready_made}
use Rattle.optimistic.proofs.tree.get.Tree.replace_fresh.Goals as goal

pub fresh-requires-clause-form : goal.fresh-requires-clause-form
fresh-requires-clause-form c = (c.requires.form.0, c.requires.form.1)

pub replace_by-requires-clause-ready : goal.replace_by-requires-clause-ready
replace_by-requires-clause-ready c =
    ready_made c.args.above c.args.old c.args.form c.args.write c.in-Ok.made c.args.hand.now.me.0 c.fresh.new.hand.me.0 c.requires.above c.requires.old c.requires.apart c.requires.form.0 c.requires.form.1 c.requires.form.2 c.in-Ok.ensures.fresh

pub returns-in-Ok-clause-since : goal.returns-in-Ok-clause-since
returns-in-Ok-clause-since c = since_trans c.args.hand.now.me.0.seen c.fresh.new.hand.me.0.seen c.replace_by.new.hand.me.0.seen c.in-Ok.ensures.fresh.since c.replace_by.ensures.since

pub returns-in-Ok-clause-set : goal.returns-in-Ok-clause-set
returns-in-Ok-clause-set c =
    set_later c.args.write.key c.args.write.value c.replace_by.result c.args.hand.now.me.0 c.fresh.new.hand.me.0 c.replace_by.new.hand.me.0 c.in-Ok.ensures.fresh.keeps.0 c.replace_by.ensures.set

pub returns-in-Ok-clause-lets_go : goal.returns-in-Ok-clause-lets_go
returns-in-Ok-clause-lets_go c =
    three_gone c.args.above.at.node c.args.old.at.node c.in-Ok.made.node c.args.hand.now.me.0 c.fresh.new.hand.me.0 c.replace_by.new.hand.me.0 c.in-Ok.ensures.fresh.mine c.replace_by.ensures.lets_go

pub let_two_go-requires-clause-above : goal.let_two_go-requires-clause-above
let_two_go-requires-clause-above c = locked_looks c.args.above c.args.hand.now.me.0 c.fresh.new.hand.me.0 c.in-Err.ensures.fresh c.requires.above

pub let_two_go-requires-clause-old : goal.let_two_go-requires-clause-old
let_two_go-requires-clause-old c = locked_looks c.args.old c.args.hand.now.me.0 c.fresh.new.hand.me.0 c.in-Err.ensures.fresh c.requires.old

pub returns-in-Err-clause-names : goal.returns-in-Err-clause-names
returns-in-Err-clause-names c = free_since c.fresh.new.free c.fresh.new.hand.me.0 c.let_two_go.new.hand.me.0 c.fresh.ensures.names c.let_two_go.ensures.since

pub returns-in-Err-clause-since : goal.returns-in-Err-clause-since
returns-in-Err-clause-since c = since_trans c.args.hand.now.me.0.seen c.fresh.new.hand.me.0.seen c.let_two_go.new.hand.me.0.seen c.in-Err.ensures.fresh.since c.let_two_go.ensures.since

pub returns-in-Err-clause-set : goal.returns-in-Err-clause-set
returns-in-Err-clause-set c =
    let v = c.args.hand.now.me.0 in
    let u = c.fresh.new.hand.me.0 in
    later_keeps v u c.let_two_go.new.hand.me.0 (looks_keeps IsTree v u c.in-Err.ensures.fresh).0 c.let_two_go.ensures.keeps

pub returns-in-Err-clause-lets_go : goal.returns-in-Err-clause-lets_go
returns-in-Err-clause-lets_go c = two_gone c.args.above.at.node c.args.old.at.node c.args.hand.now.me.0 c.fresh.new.hand.me.0 c.let_two_go.new.hand.me.0 c.in-Err.ensures.fresh.mine c.let_two_go.ensures.lets_go

pub returns-in-Err-clause-cause : goal.returns-in-Err-clause-cause
returns-in-Err-clause-cause c =
    (c.args.form, c.requires.form.0, c.requires.form.1, uncarved_since _ c.args.form c.in-Err.error c.fresh.new.hand.me.0.seen c.let_two_go.new.hand.me.0.seen c.let_two_go.ensures.since c.in-Err.ensures.cause)
