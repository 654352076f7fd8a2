use Rattle.optimistic.specs.tree.Trees.{IsTree}
use Rattle.optimistic.proofs.lemmas.words.Chains.{later_refl, looks_keeps}
use Rattle.optimistic.proofs.lemmas.tree.Setting.{place_since}
use Rattle.optimistic.proofs.tree.get.Tree.stays.Goals as goal

pub returns-then-is_none-clause-keeps : goal.returns-then-is_none-clause-keeps
returns-then-is_none-clause-keeps c = (later_refl c.args.hand.now.me.0, c.requires.own)

pub returns-clause-place : goal.returns-clause-place
returns-clause-place c = place_since c.args.end.at c.args.hand.now.me.0 c.entries-entries.new.hand.me.0 c.entries-entries.ensures.looks.since c.requires.place

pub returns-clause-keeps : goal.returns-clause-keeps
returns-clause-keeps c = looks_keeps IsTree c.args.hand.now.me.0 c.entries-entries.new.hand.me.0 c.entries-entries.ensures.looks
