use Rattle.trial.proofs.examples.sessions.shared.Kept.close.Goals as goal

pub returns-clause-pairs : goal.returns-clause-pairs
returns-clause-pairs c = rw (← c.self.view_is) (c.self.inside.registry, c.self.invariant, c.in_ok-closed.ensures)
