use Rattle.optimistic.proofs.lemmas.drain.Keys.{last_is}
use Rattle.optimistic.proofs.drain.keys.last_key.Goals as goal

pub returns : goal.returns
returns c = last_is c.args.key c.args.level c.args.byte c.requires c.ranges.key.fits c.ranges.byte.fits
