use Rattle.std.proofs.Common.{◌+◌}
use Rattle.congee.proofs.lemmas.owned.Cursors.{first_of_pair}
use Rattle.congee.proofs.owned.arena.Arena.pair_to.Goals as goal

pub returns : goal.returns
returns g c = first_of_pair c.back_along.result _ _ _ (c.back_along.ensures.last (c.args.last + 1) c.seek_past.ensures.at)
