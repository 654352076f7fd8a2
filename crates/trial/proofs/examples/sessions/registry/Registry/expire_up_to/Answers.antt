use Rattle.std.proofs.Common.{◌∙◌}
use Rattle.trial.proofs.examples.sessions.registry.Registry.expire_up_to.Goals as goal

pub loop-preserved : goal.loop-preserved
loop-preserved c = λ q. c.in-Some.ensures.due q ∙ c.loop.invariant q

pub loop-smaller : goal.loop-smaller
loop-smaller c = c.in-Some.ensures.fewer

pub returns : goal.returns
returns c = λ q. c.in_default.ensures.none q ∙ c.loop.invariant q
