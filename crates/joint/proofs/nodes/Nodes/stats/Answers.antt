use Rattle.std.proofs.Common.{rules}
use Rattle.std.specs.Prelude.{[]}
use Rattle.std.specs.FinMap as map
use Rattle.joint.specs.nodes.Nodes.{nodes}
use Rattle.joint.proofs.lemmas.nodes.Counting.{none_counted, all_counted}
use Rattle.joint.proofs.nodes.Nodes.stats.Goals as goal

pub count_from-requires-clause-node : goal.count_from-requires-clause-node
count_from-requires-clause-node g c = rw c.root.ensures (search rules)

pub returns : goal.returns
returns g c m st =
    let none = none_counted c.new-stats.result c.new-stats.ensures.nodes c.new-stats.ensures.levels c.new-stats.ensures.pairs in
    let counted = rw c.root.ensures at c.in_ok-count_from.ensures.counted in
    all_counted (nodes c.args.self.now) c.count_from.new.stats (map.len m) c.args.pairs (counted [] none) (c.requires.counted m st)
