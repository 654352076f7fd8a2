use Rattle.std.specs.Arc.{arc_value}
use Rattle.congee.proofs.lemmas.owned.Popped.{yields_last}
use Rattle.congee.proofs.owned.arc_iter.ArcIntoIter.step_back.Goals as goal

pub returns : goal.returns
returns g c = rw (← c.self.view_is) (yields_last g.K.Word64.of_word arc_value c.self.inside.tree c.pop_last.new.self c.words_end.ensures c.pop_last.result c.pop_last.ensures.popped c.pop_last.ensures.empty)
