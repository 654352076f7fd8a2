use Rattle.std.proofs.Common.{arith}
use Rattle.congee.proofs.lemmas.forms.Prefixes.{parts_go}
use Rattle.congee.proofs.owned.prefix_split.first_apart.Goals as goal

pub loop-common-preserved : goal.loop-common-preserved
loop-common-preserved c = parts_go c.args.prefix.now c.args.key.now c.loop-common.common (omega (arith, c.requires.short)) c.requires.differs c.loop-common.invariant.1 c.loop-common-test.true c.loop-common.invariant.0
