use Rattle.joint.proofs.threads.journaled_world.JournaledWorldLockedU64.turn.Goals as goal

pub returns-clause-holds : goal.returns-clause-holds
returns-clause-holds g c = (_, _, c.read.ensures.turn)
