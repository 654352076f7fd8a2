use Rattle.congee.proofs.lemmas.owned.Nearests.{greatest_as}
use Rattle.congee.proofs.owned.congee.Congee.last.Goals as goal

pub returns-clause-exact : goal.returns-clause-exact
returns-clause-exact g c =
    λ key value. rw (← c.self.view_is) (greatest_as g.K.Word64.word g.K.Word64.of_word g.V.Word64.word g.V.Word64.of_word key value _ _ c.pair_of.result (c.last_to.result, c.pair_of.ensures, c.last_to.ensures))
