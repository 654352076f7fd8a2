use Rattle.std.proofs.Common.{sym, subst}
use Rattle.trial.specs.Sessions.{Ends}
use Rattle.trial.proofs.sessions.ended.Goals as goal

pub returns : goal.returns
returns c = subst (λ x. Ends x c.in_ok-ended.ended.closed) (sym c.in_ok-ended.ensures.journal) c.in_ok-ended.ensures.pairs
