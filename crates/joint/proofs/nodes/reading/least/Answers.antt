use Rattle.joint.proofs.nodes.reading.least.Goals as goal

pub returns-then-is_at-clause-gives : goal.returns-then-is_at-clause-gives
returns-then-is_at-clause-gives g c = (c.least_child.ensures.any, λ t. c.least_child.ensures.truly c.args.word)
