use Rattle.std.proofs.Common.{ap}
use Rattle.joint.proofs.lemmas.engine.Collecting.{intact_at}
use Rattle.joint.proofs.lemmas.engine.Reserving.{reserving_inside, abandoned}
use Rattle.joint.proofs.engine.Engine.abandon.Goals as goal

pub set_call-requires : goal.set_call-requires
set_call-requires g c = reserving_inside g.P.Payload.same_as g.P.Payload.always_copies c.args.self.now.nodes c.args.self.now.machines.items c.args.self.now.calls.items c.requires.intact c.args.who c.requires.on

pub returns-clause-intact : goal.returns-clause-intact
returns-clause-intact g c =
    intact_at g.P.Payload.same_as g.P.Payload.always_copies _ _ _ _ _ _ c.set_call.ensures.nodes (ap (λ v. v.items) c.set_call.ensures.machines) c.set_call.ensures.calls
    (abandoned g.P.Payload.same_as g.P.Payload.always_copies c.args.self.now.nodes c.args.self.now.machines.items c.args.self.now.calls.items c.requires.intact c.args.who c.requires.on)
