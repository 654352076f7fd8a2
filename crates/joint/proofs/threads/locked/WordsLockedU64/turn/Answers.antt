use Rattle.joint.proofs.threads.locked.WordsLockedU64.turn.Goals as goal

pub returns-clause-holds : goal.returns-clause-holds
returns-clause-holds g c = (_, _, c.take.ensures.turn)
