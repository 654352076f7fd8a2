use Rattle.optimistic.proofs.lemmas.forms.BitsAt.{set_bit}
use Rattle.optimistic.proofs.forms.bits.with_bit.Goals as goal

pub returns : goal.returns
returns c q = set_bit c.args.mask c.args.place q c.requires
