use Rattle.std.proofs.Common.{arith}
use Rattle.optimistic.proofs.lemmas.words.Moments.{width_more}
use Rattle.optimistic.proofs.lemmas.tree.Reading.{looks_trans}
use Rattle.optimistic.proofs.tree.get.Tree.entries_wide.Goals as goal

pub read-first-requires-clause-inside : goal.read-first-requires-clause-inside
read-first-requires-clause-inside c = let m = width_more c.args.at.form c.requires.at.some c.requires.at.form in (omega arith, omega arith)

pub read-second-requires-clause-inside : goal.read-second-requires-clause-inside
read-second-requires-clause-inside c = let m = width_more c.args.at.form c.requires.at.some c.requires.at.form in (omega arith, omega arith)

pub read-third-requires-clause-inside : goal.read-third-requires-clause-inside
read-third-requires-clause-inside c = let m = width_more c.args.at.form c.requires.at.some c.requires.at.form in (omega arith, omega arith)

pub read-fourth-requires-clause-inside : goal.read-fourth-requires-clause-inside
read-fourth-requires-clause-inside c = let m = width_more c.args.at.form c.requires.at.some c.requires.at.form in (omega arith, omega arith)

pub returns-clause-looks : goal.returns-clause-looks
returns-clause-looks c = looks_trans _ _ _ c.read-first.ensures.looks (looks_trans _ _ _ c.read-second.ensures.looks (looks_trans _ _ _ c.read-third.ensures.looks c.read-fourth.ensures.looks))
