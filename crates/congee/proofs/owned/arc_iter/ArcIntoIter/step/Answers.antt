use Rattle.std.specs.Arc.{arc_value}
use Rattle.congee.proofs.lemmas.owned.Popped.{yields_first}
use Rattle.congee.proofs.owned.arc_iter.ArcIntoIter.step.Goals as goal

pub returns : goal.returns
returns g c = rw (← c.self.view_is) (yields_first g.K.Word64.of_word arc_value c.self.inside.tree c.pop_first.new.self c.words_end.ensures c.pop_first.result c.pop_first.ensures.popped c.pop_first.ensures.empty)
