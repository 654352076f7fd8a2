use Rattle.joint.proofs.lemmas.nodes.Surveying.{first_starts}
use Rattle.joint.proofs.nodes.nearest.first_byte.Goals as goal

pub returns-clause-starts : goal.returns-clause-starts
returns-clause-starts c = first_starts c.args.region c.requires c.args.from c.saturating_sub.result c.width.result c.min.result c.saturating_sub.ensures c.width.ensures c.min.ensures
