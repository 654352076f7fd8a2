use Rattle.std.proofs.Common.{refl}
use Rattle.trial.proofs.lockfree.tallies.is_legal.Goals as goal

pub returns-in-Legal : goal.returns-in-Legal
returns-in-Legal c = (λ is. c.in_ok-check.ensures.legal.0 c.in-Legal.is, λ legal. refl)
