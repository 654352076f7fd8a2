use Rattle.congee.proofs.lemmas.forms.SortedLemmas.{no_pairs}
use Rattle.congee.proofs.owned.places.Ranked.new.Goals as goal

pub returns : goal.returns
returns g c = no_pairs c.new.result c.in_ok-new.field-0.value.list.items c.new.ensures
