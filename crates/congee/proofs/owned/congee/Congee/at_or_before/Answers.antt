use Rattle.congee.proofs.owned.congee.Congee.at_or_before.Goals as goal

pub returns : goal.returns
returns g c = rw (← c.self.view_is, ← c.to_word.ensures.number) (c.last_to.result, c.pair_of.ensures, c.last_to.ensures)
