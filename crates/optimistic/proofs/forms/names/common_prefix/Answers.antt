use Rattle.optimistic.proofs.lemmas.forms.Prefixes.{common_same, common_apart}
use Rattle.optimistic.proofs.forms.names.common_prefix.Goals as goal

pub returns-clause-same : goal.returns-clause-same
returns-clause-same c = common_same c.args.a c.args.b c.ranges.a.fits c.ranges.b.fits

pub returns-clause-apart : goal.returns-clause-apart
returns-clause-apart c = common_apart c.args.a c.args.b c.ranges.a.fits c.ranges.b.fits
