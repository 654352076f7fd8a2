use Rattle.std.proofs.Common.{◌≡◌, ℕ}
use Rattle.std.specs.FinMap as map
use Rattle.trial.specs.Sessions.{unexpired}
use Rattle.trial.proofs.examples.sessions.registry.Registry.expire_up_to.Given as goal

abbrev pub invariant-loop : goal.invariant-loop
invariant-loop l = (q : ℕ) → unexpired l.now (map.get l.self q) ≡ unexpired l.now (map.get l.fn.self q)

abbrev pub decreases-loop : goal.decreases-loop
decreases-loop l = map.len l.self
