use Rattle.joint.proofs.threads.u64_congee.U64Congee.close.Goals as goal

pub returns-in-Ok-clause-closed : goal.returns-in-Ok-clause-closed
returns-in-Ok-clause-closed g c = let closed = c.in-Ok.ensures.closed in (closed.0, closed.1, closed.2.no_worker, closed.2.charge_is, closed.2.limit_is)
