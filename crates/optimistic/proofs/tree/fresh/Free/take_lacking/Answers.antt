use Rattle.optimistic.proofs.tree.fresh.Free.take_lacking.Goals as goal

pub returns-clause-names : goal.returns-clause-names
returns-clause-names c v a b = let t = c.pass_some.ensures.names v b a in (t.1, t.0)
