use Rattle.congee.proofs.lemmas.owned.Cursors.{first_of_pair}
use Rattle.congee.proofs.owned.arena.Arena.pair_from.Goals as goal

pub returns : goal.returns
returns g c = first_of_pair c.next_along.result _ _ _ (c.next_along.ensures.first c.args.from c.seek.ensures.at)
