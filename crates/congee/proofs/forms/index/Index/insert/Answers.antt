use Rattle.std.proofs.Common.{refl, arith}
use Rattle.congee.proofs.lemmas.forms.ChainLemmas.{first_within, fresh, inserted}
use Rattle.congee.proofs.forms.index.Index.insert.Goals as goal

pub bounds-self-place : goal.bounds-self-place
bounds-self-place c = first_within c.args.self.now c.requires.ok c.requires.room

pub returns-clause-within : goal.returns-clause-within
returns-clause-within c = first_within c.args.self.now c.requires.ok c.requires.room

pub returns-clause-fresh : goal.returns-clause-fresh
returns-clause-fresh c = fresh c.args.self.now c.requires.ok c.requires.room

pub returns-clause-ok : goal.returns-clause-ok
returns-clause-ok c = inserted c.args.self.now c.requires.ok c.args.byte _ (omega arith) c.requires.absent c.requires.room refl refl refl refl
