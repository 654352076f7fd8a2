use Rattle.std.proofs.Common.{rules, ◌≤◌, refl}
use Rattle.joint.proofs.lemmas.nodes.Surveying.{last_ends}
use Rattle.joint.proofs.nodes.nearest.end_byte.Goals as goal

pub returns-clause-ends : goal.returns-clause-ends
returns-clause-ends c =
    let ge : c.args.region.base ≤ c.args.last = search rules in
    last_ends c.args.region c.requires c.args.last _ c.width.result c.min.result refl c.width.ensures ge c.min.ensures
