use Rattle.std.proofs.Common.{subst}
use Rattle.joint.specs.world.World.{Holds}
use Rattle.joint.specs.engine.Engine.{World}
use Rattle.joint.proofs.world.World.sound.Goals as goal

pub returns-clause-somewhere : goal.returns-clause-somewhere
returns-clause-somewhere g c =
    let P : World g.row.P.Denot → Type 0 = λ s. Holds g.P.Payload.same_as g.P.Payload.always_copies s in
    c.whereabouts.ensures c.args.self.now (subst P c.self.view_is c.self.invariant.0)
