use Rattle.std.proofs.Common.{◌∙◌, arith}
use Rattle.optimistic.specs.tree.Trees.{IsTree}
use Rattle.optimistic.proofs.lemmas.words.Chains.{looks_keeps}
use Rattle.optimistic.proofs.lemmas.words.Moments.{width_some, width_more}
use Rattle.optimistic.proofs.lemmas.tree.Sets.{looks_drafted}
use Rattle.optimistic.proofs.lemmas.tree.Setting.{held_word, set_later, gone_from}
use Rattle.optimistic.proofs.tree.get.Tree.set_locked.Goals as goal

pub read-found-requires-clause-inside : goal.read-found-requires-clause-inside
read-found-requires-clause-inside c = let m = width_more c.args.at.form c.requires.at.some c.requires.at.form in (omega arith, omega arith)

pub release-requires-clause-some : goal.release-requires-clause-some
release-requires-clause-some c = width_some c.args.at.form c.requires.at.some c.requires.at.form

pub release-requires-clause-drafted : goal.release-requires-clause-drafted
release-requires-clause-drafted c = looks_drafted c.args.at.node c.args.at.form c.args.version c.args.hand.now.me.0 c.read-found.new.hand.me.0 c.requires.at.at (width_some c.args.at.form c.requires.at.some c.requires.at.form) c.read-found.ensures.at c.requires.drafted c.read-found.ensures.looks

pub set_there-requires-clause-at : goal.set_there-requires-clause-at
set_there-requires-clause-at c = record { at = c.read-found.ensures.at; some = c.requires.at.some; form = c.requires.at.form; level = c.requires.at.level }

pub set_there-requires-clause-drafted : goal.set_there-requires-clause-drafted
set_there-requires-clause-drafted c = looks_drafted c.args.at.node c.args.at.form c.args.version c.args.hand.now.me.0 c.read-found.new.hand.me.0 c.requires.at.at (width_some c.args.at.form c.requires.at.some c.requires.at.form) c.read-found.ensures.at c.requires.drafted c.read-found.ensures.looks

pub set_there-requires-clause-covers : goal.set_there-requires-clause-covers
set_there-requires-clause-covers c = let m = width_more c.args.at.form c.requires.at.some c.requires.at.form in
    held_word c.args.at.node c.args.at.form 1 c.read-found.result c.args.hand.now.me.0 c.read-found.new.hand.me.0 c.requires.at.at (omega arith) c.requires.drafted.0 c.read-found.ensures.looks c.read-found.ensures.steady
    ∙ (c.has_leaf-fits.ensures c.if-not-fits.false).0

pub set_there-requires-clause-leaves : goal.set_there-requires-clause-leaves
set_there-requires-clause-leaves c = (c.has_leaf-fits.ensures c.if-not-fits.false).1

pub returns-clause-set : goal.returns-clause-set
returns-clause-set c = set_later c.args.write.key c.args.write.value c.set_there.result c.args.hand.now.me.0 c.read-found.new.hand.me.0 c.set_there.new.hand.me.0 (looks_keeps IsTree c.args.hand.now.me.0 c.read-found.new.hand.me.0 c.read-found.ensures.looks).0 c.set_there.ensures.set

pub returns-clause-lets_go : goal.returns-clause-lets_go
returns-clause-lets_go c = gone_from c.args.at.node c.args.hand.now.me.0 c.read-found.new.hand.me.0 c.set_there.new.hand.me.0 c.read-found.ensures.looks.mine c.set_there.ensures.lets_go
