use Rattle.optimistic.specs.tree.Trees.{IsTree}
use Rattle.optimistic.proofs.lemmas.words.Chains.{looks_keeps}
use Rattle.optimistic.proofs.lemmas.words.Moments.{since_trans}
use Rattle.optimistic.proofs.lemmas.tree.Setting.{set_later}
use Rattle.optimistic.proofs.lemmas.tree.Exchanging.{ready_looks}
use Rattle.optimistic.proofs.tree.get.Tree.replace_counted.Goals as goal

pub give_back-requires-clause-ready : goal.give_back-requires-clause-ready
give_back-requires-clause-ready c = ready_looks c.args.nodes c.args.hand.now.me.0 c.entries-entries.new.hand.me.0 c.entries-entries.ensures.looks c.requires.ready

pub replace_with-requires-2-clause-ready : goal.replace_with-requires-2-clause-ready
replace_with-requires-2-clause-ready c = ready_looks c.args.nodes c.args.hand.now.me.0 c.entries-entries.new.hand.me.0 c.entries-entries.ensures.looks c.requires.ready

pub returns-then-not-enough-clause-since : goal.returns-then-not-enough-clause-since
returns-then-not-enough-clause-since c = since_trans c.args.hand.now.me.0.seen c.entries-entries.new.hand.me.0.seen c.give_back.new.hand.me.0.seen c.entries-entries.ensures.looks.since c.give_back.ensures.since

pub returns-clause-since : goal.returns-clause-since
returns-clause-since c = since_trans c.args.hand.now.me.0.seen c.entries-entries.new.hand.me.0.seen c.replace_with-2.new.hand.me.0.seen c.entries-entries.ensures.looks.since c.replace_with-2.ensures.since

pub returns-clause-set : goal.returns-clause-set
returns-clause-set c = set_later c.args.nodes.write.key c.args.nodes.write.value c.replace_with-2.result c.args.hand.now.me.0 c.entries-entries.new.hand.me.0 c.replace_with-2.new.hand.me.0 (looks_keeps IsTree c.args.hand.now.me.0 c.entries-entries.new.hand.me.0 c.entries-entries.ensures.looks).0 c.replace_with-2.ensures.set
