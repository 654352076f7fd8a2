use Rattle.std.proofs.Common.{◌≡◌, ◌<◌, arith, length, refl, rules, subst}
use Rattle.std.specs.Prelude.{slice_set}
use Rattle.std.specs.Vec.{vec_len}
use Rattle.congee.specs.protocol.Play.{IsNew, begun}
use Rattle.joint.specs.declared.engine.in_flight.InFlight.TheVariants.{Idle}
use Rattle.joint.specs.Names.{root}
use Rattle.joint.proofs.lemmas.engine.Collecting.{call_inside, inside_machines, intact_at}
use Rattle.joint.proofs.lemmas.engine.Starting.{started}
use Rattle.joint.proofs.engine.Engine.start.Goals as goal

pub index_mut-requires : goal.index_mut-requires
index_mut-requires g c =
    let l : c.args.who < length c.args.self.now.machines.items = inside_machines g.P.Payload.same_as g.P.Payload.always_copies c.args.self.now.nodes c.args.self.now.machines.items c.args.self.now.calls.items c.requires.intact c.args.who Idle c.requires.idle in
    let v : vec_len c.args.self.now.machines ≡ length c.args.self.now.machines.items = search rules in
    omega (arith, l, v)

pub set_call-requires : goal.set_call-requires
set_call-requires g c = call_inside g.P.Payload.same_as g.P.Payload.always_copies c.args.self.now.nodes c.args.self.now.machines.items c.args.self.now.calls.items c.requires.intact c.args.who Idle c.requires.idle

pub returns-clause-intact : goal.returns-clause-intact
returns-clause-intact g c =
    let m : c.set_call.new.self.machines.items ≡ slice_set c.args.self.now.machines.items c.args.who (begun root c.args.op) = search rules in
    let P : _ → Type 0 = λ x. IsNew x in
    intact_at g.P.Payload.same_as g.P.Payload.always_copies _ _ _ _ _ _ c.set_call.ensures.nodes m c.set_call.ensures.calls
    (started g.P.Payload.same_as g.P.Payload.always_copies c.call_laws.ensures c.args.self.now.nodes c.args.self.now.machines.items c.args.self.now.calls.items c.requires.intact c.args.who c.requires.idle c.args.op c.requires.may (begun root c.args.op) refl (subst P (rw c.root.ensures at c.begin.ensures.call) c.begin.ensures.new))
