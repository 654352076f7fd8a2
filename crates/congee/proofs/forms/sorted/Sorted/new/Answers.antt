use Rattle.congee.proofs.lemmas.forms.SortedLemmas.{no_pairs}
use Rattle.congee.proofs.forms.sorted.Sorted.new.Goals as goal

pub returns : goal.returns
returns g c = no_pairs c.new.result c.new-2.result.items c.new.ensures
