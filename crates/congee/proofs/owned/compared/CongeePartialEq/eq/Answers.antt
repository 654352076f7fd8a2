use Rattle.congee.proofs.lemmas.owned.Comparing.{told_same}
use Rattle.congee.proofs.owned.compared.CongeePartialEq.eq.Goals as goal

pub returns : goal.returns
returns g c = told_same _ _ _ c.has_pairs_of.ensures.0 c.has_pairs_of.ensures.1
