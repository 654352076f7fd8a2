use Rattle.std.proofs.Common.{◌∙◌}
use Rattle.optimistic.proofs.lemmas.forms.BitsAt.{len_held, all_ones}
use Rattle.optimistic.proofs.forms.bits.is_full.Goals as goal

pub returns-in-None-clause-len : goal.returns-in-None-clause-len
returns-in-None-clause-len c key word t node = len_held c.args.mask c.args.places key word node ∙ all_ones c.args.mask c.args.places c.in-None.ensures
