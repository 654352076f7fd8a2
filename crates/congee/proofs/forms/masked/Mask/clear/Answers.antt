use Rattle.std.proofs.Common.{arith}
use Rattle.congee.proofs.lemmas.forms.BitLemmas.{clear_at}
use Rattle.congee.proofs.forms.masked.Mask.clear.Goals as goal

pub returns : goal.returns
returns c = clear_at c.args.self.now.bytes c.args.byte c.requires.sized (omega arith)
