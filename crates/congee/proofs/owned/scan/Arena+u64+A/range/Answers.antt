use Rattle.std.proofs.Common.{length, sym, ap}
use Rattle.std.specs.FinMap as map
use Rattle.congee.specs.owned.Table.{pairs_of}
use Rattle.congee.specs.owned.Ranges.{entries_by, in_range}
use Rattle.congee.proofs.lemmas.owned.RangeLemmas.{none_before, take_none}
use Rattle.congee.proofs.owned.scan.Arena+u64+A.range.Goals as goal

pub returns-in-None-clause-pairs : goal.returns-in-None-clause-pairs
returns-in-None-clause-pairs g c =
    let es = map.entries (pairs_of c.args.self.now.nodes) in
    sym (ap (entries_by g.E.Listed.entry) (take_none (length c.args.out.now) (in_range c.args.start c.args.end es) (none_before c.args.start c.args.end es (λ l. c.in-None.ensures l))))

pub returns-in-None-clause-count : goal.returns-in-None-clause-count
returns-in-None-clause-count g c =
    let es = map.entries (pairs_of c.args.self.now.nodes) in
    sym (ap length (take_none (length c.args.out.now) (in_range c.args.start c.args.end es) (none_before c.args.start c.args.end es (λ l. c.in-None.ensures l))))
