use Rattle.optimistic.proofs.lemmas.forms.Prefixes.{leaf_back}
use Rattle.optimistic.proofs.forms.names.leaf_key.Goals as goal

pub returns-clause-leaf : goal.returns-clause-leaf
returns-clause-leaf c = (leaf_back c.args.child c.args.key c.ranges.child.fits c.ranges.key.fits c.requires).0

pub returns-clause-first : goal.returns-clause-first
returns-clause-first c = (leaf_back c.args.child c.args.key c.ranges.child.fits c.ranges.key.fits c.requires).1
