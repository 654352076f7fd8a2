use Rattle.optimistic.proofs.lemmas.drain.Keys.{first_is}
use Rattle.optimistic.proofs.drain.keys.first_key.Goals as goal

pub returns : goal.returns
returns c = first_is c.args.key c.args.level c.args.byte c.requires c.ranges.key.fits c.ranges.byte.fits
