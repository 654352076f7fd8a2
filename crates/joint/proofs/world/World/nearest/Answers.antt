use Rattle.std.proofs.Common.{subst}
use Rattle.joint.specs.engine.Engine.{World}
use Rattle.joint.specs.engine.Looks.{Looks}
use Rattle.joint.specs.nodes.Nearest.{IsNearest}
use Rattle.joint.proofs.world.World.nearest.Goals as goal

pub returns : goal.returns
returns g c =
    let P : World g.row.P.Denot → Type 0 = λ s. Looks g.P.Payload.always_copies s c.args.worker (λ m pair. IsNearest m c.args.near pair) c.nearest.result in
    subst P c.self.view_is c.nearest.ensures
