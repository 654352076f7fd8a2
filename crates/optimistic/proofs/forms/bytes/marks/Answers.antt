use Rattle.std.proofs.Common.{◌*◌, arith, bit_xor}
use Rattle.optimistic.proofs.lemmas.forms.Marks.{trick_marks}
use Rattle.optimistic.proofs.lemmas.forms.Trick.{ones, trick_other}
use Rattle.optimistic.proofs.forms.bytes.marks.Goals as goal

pub returns : goal.returns
returns c = record { marked = trick_marks c.args.word c.args.byte c.ranges.word.fits (omega arith); sparse = trick_other (bit_xor c.args.word (c.args.byte * ones)) }
