use Rattle.std.proofs.Common.{arith}
use Rattle.optimistic.proofs.lemmas.words.Moments.{width_some, width_more}
use Rattle.optimistic.proofs.lemmas.tree.Blank.{made}
use Rattle.optimistic.proofs.lemmas.tree.Reading.{looks_trans}
use Rattle.optimistic.proofs.tree.get.Tree.take_free.Goals as goal

pub load-version-requires-clause-inside : goal.load-version-requires-clause-inside
load-version-requires-clause-inside c = width_some c.args.form c.requires.form.0 c.requires.form.1

pub load-covers-requires-clause-inside : goal.load-covers-requires-clause-inside
load-covers-requires-clause-inside c = let m = width_more c.args.form c.requires.form.0 c.requires.form.1 in omega arith

pub lock-locked-requires-clause-some : goal.lock-locked-requires-clause-some
lock-locked-requires-clause-some c = width_some c.args.form c.requires.form.0 c.requires.form.1

pub lock-locked-requires-clause-free : goal.lock-locked-requires-clause-free
lock-locked-requires-clause-free c = let f = c.is_free-free.ensures c.if-not-free.false in let l = f.1 in (f.0, omega arith)

pub returns-then-covers-ne0-clause-taken : goal.returns-then-covers-ne0-clause-taken
returns-then-covers-ne0-clause-taken c = looks_trans c.args.hand.now.me.0 c.load-version.new.hand.me.0 c.load-covers.new.hand.me.0 c.load-version.ensures.looks c.load-covers.ensures.looks

pub returns-then-not-locked-clause-taken : goal.returns-then-not-locked-clause-taken
returns-then-not-locked-clause-taken c = let v = c.args.hand.now.me.0 in let a = c.load-version.new.hand.me.0 in let u = c.load-covers.new.hand.me.0 in
    looks_trans v u c.lock-locked.new.hand.me.0 (looks_trans v a u c.load-version.ensures.looks c.load-covers.ensures.looks) c.if-not-locked.ensures.locked

pub returns-clause-taken : goal.returns-clause-taken
returns-clause-taken c = let f = c.is_free-free.ensures c.if-not-free.false in
    made c.args.node c.args.form c.load-version.result c.load-covers.result c.args.hand.now.me.0 c.load-version.new.hand.me.0 c.load-covers.new.hand.me.0 c.lock-locked.new.hand.me.0
    c.requires.form.0 c.requires.form.1 c.requires.at c.load-version.ensures.looks c.load-version.ensures.found f.0 f.1 c.load-covers.ensures.looks c.load-covers.ensures.found c.if-covers-ne0.false c.if-not-locked.ensures.locked c.lock-locked.ensures.at
