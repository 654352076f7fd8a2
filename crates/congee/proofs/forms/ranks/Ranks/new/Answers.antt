use Rattle.congee.proofs.lemmas.forms.Ranks.{new_row}
use Rattle.congee.proofs.forms.ranks.Ranks.new.Goals as goal

pub invariant_of-result : goal.invariant_of-result
invariant_of-result g c = new_row g.row.N c.requires
