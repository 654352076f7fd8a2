use Rattle.std.proofs.Common.{arith}
use Rattle.optimistic.proofs.lemmas.face.Knowing.{saw_trans}
use Rattle.optimistic.proofs.face.congee.WordWorker.look_ahead.Goals as goal

pub loop-step-preserved : goal.loop-step-preserved
loop-step-preserved g c = (c.follow.ensures.known, saw_trans c.args.self.now c.loop-step.self c.follow.new.self c.loop-step.invariant.1 c.follow.ensures.looked.0)

pub follow-requires-clause-turn : goal.follow-requires-clause-turn
follow-requires-clause-turn g c = omega arith
