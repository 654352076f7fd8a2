use Rattle.joint.proofs.lemmas.calls.Calling.{Going}
use Rattle.joint.proofs.world.World.take_steps.Given as goal

abbrev pub invariant-loop-left : goal.invariant-loop-left
invariant-loop-left g l = Going g.P.Payload.same_as g.P.Payload.always_copies l.fn.self l.fn.who l.fn.op l.fn.most l.left l.fn.found l.found l.self

abbrev pub decreases-loop-left : goal.decreases-loop-left
decreases-loop-left g l = l.left
