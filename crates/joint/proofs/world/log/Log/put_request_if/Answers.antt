use Rattle.std.proofs.Common.{arith, rules}
use Rattle.std.proofs.lemmas.Grind.{common_steps}
use Rattle.joint.proofs.world.log.Log.put_request_if.Goals as goal

pub returns-then-who-len : goal.returns-then-who-len
returns-then-who-len g c = rw c.if-not-on.false (search rules)

pub returns-else-who-len : goal.returns-else-who-len
returns-else-who-len g c = rw c.if-not-on.false (grind (arith, common_steps))
