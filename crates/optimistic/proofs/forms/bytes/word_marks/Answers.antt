use Rattle.optimistic.specs.forms.Bytes.{byte_of}
use Rattle.optimistic.proofs.forms.bytes.word_marks.Goals as goal

pub returns : goal.returns
returns c = c.pack.ensures (byte_of c.args.word) c.args.byte c.marks.ensures.marked
