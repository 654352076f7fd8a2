use Rattle.optimistic.proofs.lemmas.forms.Marks.{join}
use Rattle.optimistic.proofs.forms.bytes.beside.Goals as goal

pub returns : goal.returns
returns c key b w m h same = join c.args.places key b w c.args.low c.args.high c.requires m h same
