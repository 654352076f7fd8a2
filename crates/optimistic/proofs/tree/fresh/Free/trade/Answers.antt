use Rattle.optimistic.proofs.tree.fresh.Free.trade.Goals as goal

pub loop-form-preserved : goal.loop-form-preserved
loop-form-preserved c = (c.trade_form.ensures.forms.0, c.trade_form.ensures.forms.1, λ v a b. let t = c.loop-form.invariant.2 v a b in c.trade_form.ensures.names v t.0 t.1)
