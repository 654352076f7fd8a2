use Rattle.joint.proofs.lemmas.threads.Watching.{closes_journal}
use Rattle.joint.proofs.threads.journaled.Journaled.close.Goals as goal

pub returns-in-Ok-clause-closed : goal.returns-in-Ok-clause-closed
returns-in-Ok-clause-closed g c =
    let closed = rw c.new.ensures at c.in-Ok.ensures.closed in
    closes_journal _ _ _ _ _ _ closed.0 closed.1 closed.3.1 (rw c.into_inner.ensures closed.2) closed.3.0
