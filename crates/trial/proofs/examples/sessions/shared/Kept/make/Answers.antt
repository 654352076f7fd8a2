use Rattle.std.proofs.Common.{sym, subst}
use Rattle.trial.specs.Sessions.{IsLeft}
use Rattle.trial.proofs.Turning.{left_more}
use Rattle.trial.proofs.examples.sessions.shared.Kept.make.Goals as goal

pub invariant_of-self-in-Ok : goal.invariant_of-self-in-Ok
invariant_of-self-in-Ok c =
    subst (λ x. IsLeft x c.make.new.self) (sym c.in_ok-push.ensures.items) (left_more c.self.inside.journal.items c.args.change c.self.inside.registry c.make.new.self c.self.invariant c.in-Ok.ensures.made)
