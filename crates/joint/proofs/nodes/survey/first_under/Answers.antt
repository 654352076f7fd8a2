use Rattle.std.proofs.Common.{arith}
use Rattle.joint.proofs.lemmas.nodes.Surveying.{start_fits}
use Rattle.joint.proofs.nodes.survey.first_under.Goals as goal

pub overflow_mul-result : goal.overflow_mul-result
overflow_mul-result c = let f = start_fits c.args.region c.requires c.args.byte c.width.result c.ranges.byte.fits c.width.ensures in omega (arith, f.0)

pub overflow_add-result : goal.overflow_add-result
overflow_add-result c = let f = start_fits c.args.region c.requires c.args.byte c.width.result c.ranges.byte.fits c.width.ensures in omega (arith, f.1)
