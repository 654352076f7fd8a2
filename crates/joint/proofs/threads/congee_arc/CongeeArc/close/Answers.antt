use Rattle.std.proofs.Common.{◌∙◌, sym}
use Rattle.joint.proofs.threads.congee_arc.CongeeArc.close.Goals as goal

pub returns-in-Ok-clause-closed : goal.returns-in-Ok-clause-closed
returns-in-Ok-clause-closed g c =
    let closed = c.in-Ok.ensures.closed in
    let back = c.in-Ok.ensures.given_back in
    (closed.0, closed.1, closed.2.no_worker, sym back.0 ∙ closed.2.charge_is, sym back.1 ∙ closed.2.limit_is)
