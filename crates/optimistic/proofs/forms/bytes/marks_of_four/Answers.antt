use Rattle.optimistic.proofs.lemmas.forms.Marks.{first_four}
use Rattle.optimistic.proofs.forms.bytes.marks_of_four.Goals as goal

pub returns : goal.returns
returns c = first_four c.marks.ensures.marked
