use Rattle.std.proofs.Common.{ap, ◌∙◌}
use Rattle.std.proofs.Math.Nat.{mod-eq_of_lt}
use lib.Count.{ones}
use Rattle.optimistic.proofs.lemmas.forms.BitsAt.{len_held}
use Rattle.optimistic.proofs.forms.bits.count.Goals as goal

pub returns : goal.returns
returns c n key word f node = len_held c.args.mask n key word node ∙ ap ones (mod-eq_of_lt f)
