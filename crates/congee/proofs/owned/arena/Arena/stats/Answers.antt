use Rattle.std.specs.Prelude.{[]}
use Rattle.std.specs.FinMap as map
use Rattle.congee.specs.owned.Table.{pairs_of}
use Rattle.congee.proofs.lemmas.owned.Surveys.{none_counted, all_counted}
use Rattle.congee.proofs.lemmas.owned.Weights.{nodes_weigh}
use Rattle.congee.proofs.owned.arena.Arena.stats.Goals as goal

pub returns-clause-counted : goal.returns-clause-counted
returns-clause-counted g c =
    let s = c.args.self.now.nodes in
    let none = none_counted s c.new-stats.result c.new-stats.ensures.nodes c.new-stats.ensures.levels c.new-stats.ensures.pairs in
    all_counted s c.count_from.new.stats (map.len (pairs_of s)) c.count_pairs.result (rw c.root.ensures at (c.in_ok-count_from.ensures.counted [] none)) c.count_pairs.ensures

pub returns-clause-charged : goal.returns-clause-charged
returns-clause-charged g c = nodes_weigh c.args.self.now.nodes c.requires.tree (rw c.root.ensures at c.in_ok-count_from.ensures.bytes)
