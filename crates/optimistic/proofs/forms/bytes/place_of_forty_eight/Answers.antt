use Rattle.std.proofs.Common.{arith}
use Rattle.optimistic.proofs.lemmas.forms.Marks.{unmarked, place_of_bits}
use Rattle.optimistic.proofs.forms.bytes.place_of_forty_eight.Goals as goal

pub returns-then-t-eq0 : goal.returns-then-t-eq0
returns-then-t-eq0 c = unmarked c.six_marks-t.ensures c.if-t-eq0.true 48 (omega arith)

pub returns-else-t-eq0 : goal.returns-else-t-eq0
returns-else-t-eq0 c = place_of_bits c.six_marks-t.ensures c.if-t-eq0.false (omega (arith, c.six_marks-t.ensures.fits))
