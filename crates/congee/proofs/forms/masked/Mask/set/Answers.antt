use Rattle.std.proofs.Common.{arith}
use Rattle.congee.proofs.lemmas.forms.BitLemmas.{bit_set}
use Rattle.congee.proofs.forms.masked.Mask.set.Goals as goal

pub returns : goal.returns
returns c = bit_set c.args.self.now.bytes c.args.byte c.requires.sized (omega arith)
