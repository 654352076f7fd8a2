use Rattle.joint.proofs.threads.word_congee.Congee.close.Goals as goal

pub returns-in-Ok-clause-closed : goal.returns-in-Ok-clause-closed
returns-in-Ok-clause-closed g c =
    let closed = rw c.new.ensures at c.in-Ok.ensures.closed in (closed.0, closed.1, rw c.into_inner.ensures closed.2)
