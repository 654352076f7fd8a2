use Rattle.optimistic.proofs.tree.fresh.Free.pass.Goals as goal

pub returns-in-Some-clause-names : goal.returns-in-Some-clause-names
returns-in-Some-clause-names c v a b = (c.pop.ensures.names v a, c.give.ensures.names v (c.in-Some.ensures.name v a) b)

pub returns-in_default-clause-names : goal.returns-in_default-clause-names
returns-in_default-clause-names c v a b = (c.pop.ensures.names v a, b)
