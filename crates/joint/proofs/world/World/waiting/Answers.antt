use Rattle.std.proofs.Common.{subst}
use Rattle.joint.specs.world.World.{Holds}
use Rattle.joint.specs.engine.Engine.{World}
use Rattle.joint.proofs.world.World.waiting.Goals as goal

pub returns-clause-listed : goal.returns-clause-listed
returns-clause-listed g c =
    let P : World g.row.P.Denot → Type 0 = λ s. Holds g.P.Payload.same_as g.P.Payload.always_copies s in
    c.waits.ensures c.args.self.now (subst P c.self.view_is c.self.invariant.0)
