use Rattle.congee.proofs.owned.congee.Congee.at_or_after.Goals as goal

pub returns : goal.returns
returns g c = rw (← c.self.view_is, ← c.to_word.ensures.number) (c.first_from.result, c.pair_of.ensures, c.first_from.ensures)
