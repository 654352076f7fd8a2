use Rattle.std.proofs.Common.{rules, ℕ, ◌<◌, sym, subst}
use Rattle.optimistic.specs.Layout.{width}
use Rattle.optimistic.proofs.lemmas.words.Moments.{width_some}
use Rattle.optimistic.proofs.lemmas.tree.Reading.{looks_trans}
use Rattle.optimistic.proofs.tree.get.Tree.try_lock.Goals as goal

pub load-version-requires-clause-inside : goal.load-version-requires-clause-inside
load-version-requires-clause-inside c = width_some c.args.at.form c.requires.at.some c.requires.at.form

pub lock-locked-requires-clause-some : goal.lock-locked-requires-clause-some
lock-locked-requires-clause-some c = width_some c.args.at.form c.requires.at.some c.requires.at.form

pub returns-then-not-locked-clause-locking : goal.returns-then-not-locked-clause-locking
returns-then-not-locked-clause-locking c = looks_trans c.args.hand.now.me.0 c.load-version.new.hand.me.0 c.lock-locked.new.hand.me.0 c.load-version.ensures.looks c.if-not-locked.ensures.locked

pub returns-then-version-clause-locking : goal.returns-then-version-clause-locking
returns-then-version-clause-locking c = (c.load-version.ensures.looks, (subst (λ (z : ℕ). 0 < width z) (sym c.load-version.ensures.at.is) (width_some c.args.at.form c.requires.at.some c.requires.at.form), search rules))
