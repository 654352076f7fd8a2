use Rattle.congee.proofs.lemmas.owned.Nearests.{least_as}
use Rattle.congee.proofs.owned.congee.Congee.first.Goals as goal

pub returns-clause-found : goal.returns-clause-found
returns-clause-found g c = rw (← c.self.view_is) (c.first_from.result, c.pair_of.ensures, c.first_from.ensures)

pub returns-clause-exact : goal.returns-clause-exact
returns-clause-exact g c =
    λ key value. rw (← c.self.view_is) (least_as g.K.Word64.word g.K.Word64.of_word g.V.Word64.word g.V.Word64.of_word key value _ _ c.pair_of.result (c.first_from.result, c.pair_of.ensures, c.first_from.ensures))
