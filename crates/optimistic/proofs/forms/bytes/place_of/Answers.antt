use Rattle.std.proofs.Common.{arith}
use Rattle.optimistic.proofs.lemmas.forms.Marks.{unmarked, place_of_bytes}
use Rattle.optimistic.proofs.forms.bytes.place_of.Goals as goal

pub returns-then-t-eq0 : goal.returns-then-t-eq0
returns-then-t-eq0 c = unmarked c.marks-t.ensures.marked c.if-t-eq0.true 8 (omega arith)

pub returns-else-t-eq0 : goal.returns-else-t-eq0
returns-else-t-eq0 c = place_of_bytes c.marks-t.ensures.marked c.if-t-eq0.false (omega (arith, c.marks-t.ensures.marked.fits))
