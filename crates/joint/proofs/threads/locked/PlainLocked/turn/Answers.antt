use Rattle.joint.proofs.lemmas.threads.Holding.{step_tells}
use Rattle.joint.proofs.threads.locked.PlainLocked.turn.Goals as goal

pub returns-clause-told : goal.returns-clause-told
returns-clause-told g c = step_tells g.P.Payload.same_as g.P.Payload.always_copies c.args.step c.step.result c.requires (_, _, c.step.ensures)
