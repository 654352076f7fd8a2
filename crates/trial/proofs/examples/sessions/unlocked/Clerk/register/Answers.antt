use Rattle.std.proofs.Common.{Some, subst}
use Rattle.optimistic.specs.face.Calls.{HasCall}
use Rattle.optimistic.proofs.Laws.{call_wrote}
use Rattle.trial.proofs.examples.sessions.unlocked.Clerk.register.Goals as goal

pub returns-clause-put : goal.returns-clause-put
returns-clause-put g c =
    let wrote = call_wrote c.from.result (Some c.from-2.result) c.in_ok-insert.field-0 c.args.self.now.expiries c.insert.new.self c.in_ok-insert.ensures.inserted in
    subst (λ k. HasCall k (Some c.args.expiry) c.insert.new.self.seen) c.from.ensures (subst (λ v. HasCall c.from.result (Some v) c.insert.new.self.seen) c.from-2.ensures wrote)
