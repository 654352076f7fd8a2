use Rattle.std.proofs.Common.{◌^◌}
use Rattle.congee.proofs.lemmas.owned.RangeLemmas.{range_all}
use Rattle.congee.proofs.owned.into_iter.Rest.new.Goals as goal

pub returns : goal.returns
returns g c = range_all c.args.tree.pairs (2 ^ 64) c.words_end.ensures
