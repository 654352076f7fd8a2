use Rattle.std.proofs.Common.{◌^◌, ◌∙◌}
use Rattle.congee.specs.owned.Table.{pairs_of}
use Rattle.congee.proofs.lemmas.owned.RangeLemmas.{range_all}
use Rattle.congee.proofs.lemmas.owned.Tables.{pairs_stand}
use Rattle.congee.proofs.owned.arena.Arena.whole_run.Goals as goal

pub returns : goal.returns
returns g c = c.run.ensures ∙ range_all (pairs_of c.args.self.now.nodes) (2 ^ 64) (pairs_stand c.args.self.now.nodes).none_beyond
