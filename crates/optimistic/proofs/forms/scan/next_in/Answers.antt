use Rattle.optimistic.proofs.lemmas.forms.Scans.{none_from, first_from}
use Rattle.optimistic.proofs.forms.scan.next_in.Goals as goal

pub returns-then-rest-eq0 : goal.returns-then-rest-eq0
returns-then-rest-eq0 c = none_from c.args.mask c.args.from c.if-rest-eq0.true

pub returns-else-rest-eq0 : goal.returns-else-rest-eq0
returns-else-rest-eq0 c = first_from c.args.mask c.args.from c.lowest.result c.ranges.mask.fits c.lowest.ensures.set c.lowest.ensures.below
