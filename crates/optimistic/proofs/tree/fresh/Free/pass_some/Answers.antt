use Rattle.optimistic.proofs.tree.fresh.Free.pass_some.Goals as goal

pub loop-preserved : goal.loop-preserved
loop-preserved c = (c.pass.ensures.forms.0, c.pass.ensures.forms.1, λ v a b. let t = c.loop.invariant.2 v a b in c.pass.ensures.names v t.0 t.1)
