use Rattle.optimistic.specs.tree.Trees.{IsTree}
use Rattle.optimistic.proofs.lemmas.words.Chains.{looks_keeps}
use Rattle.optimistic.proofs.lemmas.words.Moments.{width_some}
use Rattle.optimistic.proofs.lemmas.tree.Sets.{looks_drafted}
use Rattle.optimistic.proofs.lemmas.tree.Setting.{place_since, set_later, gone_from}
use Rattle.optimistic.proofs.tree.get.Tree.set_counted.Goals as goal

pub release-requires-clause-some : goal.release-requires-clause-some
release-requires-clause-some c = width_some c.args.at.form c.requires.at.some c.requires.at.form

pub release-requires-clause-drafted : goal.release-requires-clause-drafted
release-requires-clause-drafted c = looks_drafted c.args.at.node c.args.at.form c.args.version c.args.hand.now.me.0 c.entries-entries.new.hand.me.0 c.requires.at.at (width_some c.args.at.form c.requires.at.some c.requires.at.form) (place_since c.args.at c.args.hand.now.me.0 c.entries-entries.new.hand.me.0 c.entries-entries.ensures.looks.since c.requires.at).at c.requires.drafted c.entries-entries.ensures.looks

pub set_locked-requires-2-clause-drafted : goal.set_locked-requires-2-clause-drafted
set_locked-requires-2-clause-drafted c = looks_drafted c.args.at.node c.args.at.form c.args.version c.args.hand.now.me.0 c.entries-entries.new.hand.me.0 c.requires.at.at (width_some c.args.at.form c.requires.at.some c.requires.at.form) (place_since c.args.at c.args.hand.now.me.0 c.entries-entries.new.hand.me.0 c.entries-entries.ensures.looks.since c.requires.at).at c.requires.drafted c.entries-entries.ensures.looks

pub returns-clause-set : goal.returns-clause-set
returns-clause-set c = set_later c.args.write.key c.args.write.value c.set_locked-2.result c.args.hand.now.me.0 c.entries-entries.new.hand.me.0 c.set_locked-2.new.hand.me.0 (looks_keeps IsTree c.args.hand.now.me.0 c.entries-entries.new.hand.me.0 c.entries-entries.ensures.looks).0 c.set_locked-2.ensures.set

pub returns-clause-lets_go : goal.returns-clause-lets_go
returns-clause-lets_go c = gone_from c.args.at.node c.args.hand.now.me.0 c.entries-entries.new.hand.me.0 c.set_locked-2.new.hand.me.0 c.entries-entries.ensures.looks.mine c.set_locked-2.ensures.lets_go

pub set_locked-requires-2-clause-at : goal.set_locked-requires-2-clause-at
set_locked-requires-2-clause-at c = place_since c.args.at c.args.hand.now.me.0 c.entries-entries.new.hand.me.0 c.entries-entries.ensures.looks.since c.requires.at

pub release-requires-clause-at : goal.release-requires-clause-at
release-requires-clause-at c = (place_since c.args.at c.args.hand.now.me.0 c.entries-entries.new.hand.me.0 c.entries-entries.ensures.looks.since c.requires.at).at
