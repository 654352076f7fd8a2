use Rattle.congee.proofs.owned.arena.Arena.run.Goals as goal

pub invariant_of-result : goal.invariant_of-result
invariant_of-result g c = (c.requires, c.seek-front.ensures.walk, c.seek_past-back.ensures.walk, λ e. c.seek-front.ensures.at, λ e. c.seek_past-back.ensures.at)
