use Rattle.optimistic.proofs.lemmas.forms.Pack.{packed_marks}
use Rattle.optimistic.proofs.forms.bytes.pack.Goals as goal

pub returns : goal.returns
returns c key b m = packed_marks key b c.args.marks c.ranges.marks.fits c.requires m
