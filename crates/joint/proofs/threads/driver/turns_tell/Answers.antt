use Rattle.joint.proofs.lemmas.threads.Holding.{step_tells, turn_of_call}
use Rattle.joint.proofs.threads.driver.turns_tell.Goals as goal

pub returns : goal.returns
returns g c who op last s s' step r turn taken = step_tells g.P.Payload.same_as g.P.Payload.always_copies step r (turn_of_call who op last step turn) (s, s', taken)
