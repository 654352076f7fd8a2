use Rattle.std.proofs.Common.{refl, sym, ◌∙◌}
use Rattle.std.proofs.lemmas.List.{take-map}
use Rattle.joint.proofs.lemmas.threads.Ascending.{ascend_is}
use Rattle.joint.proofs.threads.replies.filled.Goals as goal

pub returns-then-ascends-clause-same : goal.returns-then-ascends-clause-same
returns-then-ascends-clause-same g c = rw (take-map g.Q.Pair.key_of c.args.count c.args.found.now, ← c.ascends.ensures, c.if-ascends.true) refl

pub returns-then-ascends-clause-ascend : goal.returns-then-ascends-clause-ascend
returns-then-ascends-clause-ascend g c = ascend_is c.args.range.0 c.args.range.1 _ (sym c.ascends.ensures ∙ c.if-ascends.true)

pub returns-else-ascends-clause-same : goal.returns-else-ascends-clause-same
returns-else-ascends-clause-same g c = rw (take-map g.Q.Pair.key_of c.args.count c.args.found.now, ← c.ascends.ensures, c.if-ascends.false) refl
