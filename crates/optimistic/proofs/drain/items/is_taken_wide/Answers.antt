use Rattle.std.proofs.Common.{arith}
use Rattle.optimistic.proofs.lemmas.MoveLemmas.{wide_first, wide_mask}
use Rattle.optimistic.proofs.drain.items.is_taken_wide.Goals as goal

pub word-requires : goal.word-requires
word-requires c = let a = c.requires.at in omega (arith, a, wide_first c.args.form c.args.place c.requires.inside.1 c.if-form-lt5.true c.requires.inside.0)

pub word-requires-else-form-lt5 : goal.word-requires-else-form-lt5
word-requires-else-form-lt5 c = let a = c.requires.at in omega (arith, a, wide_mask c.args.form c.args.place c.requires.inside.1 c.if-form-lt5.false c.requires.inside.0)
