use Rattle.std.proofs.Common.{rules, refl, arith}
use Rattle.joint.proofs.lemmas.nodes.Planting.{is_opened, kept_planted}
use Rattle.joint.proofs.nodes.Nodes.new.Goals as goal

pub returns-in-Ok-plant : goal.returns-in-Ok-plant
returns-in-Ok-plant g c = is_opened c.args.limits _ c.in-Ok-plant.counts c.in-Ok-plant.ensures (c.are_allowed.ensures.0 (search rules)) _ _ (let w = c.in-Ok.ensures.within in omega (arith, w, c.charged-base.ensures)) c.charged-base.ensures c.in-Ok.ensures.charged c.in-Ok.ensures.limit refl

pub invariant_of-result : goal.invariant_of-result
invariant_of-result g c = kept_planted c.args.limits _ c.in-Ok-plant.counts c.in-Ok-plant.ensures (c.are_allowed.ensures.0 (search rules)) (omega (arith, c.in-Ok.ensures.charged, c.charged-base.ensures))
