use Rattle.std.proofs.Common.{◌≡◌, ◌<◌, ℕ, arith, length, refl, rules, sym, ◌∙◌, ap, subst}
use Rattle.std.specs.Prelude.{Some, slice_set}
use Rattle.std.specs.Vec.{vec_len}
use Rattle.std.proofs.lemmas.List.{length-set}
use Rattle.std.proofs.lemmas.Option.{slice_get_read}
use Rattle.crossbeam_epoch.specs.declared.world.report.Event.TheVariants.{Begin}
use Rattle.crossbeam_epoch.specs.declared.world.report.Op.TheVariants.{Secure}
use Rattle.joint.specs.declared.engine.in_flight.InFlight.TheVariants.{Idle, Securing}
use Rattle.joint.proofs.lemmas.engine.Collecting.{collected_at}
use Rattle.joint.proofs.lemmas.engine.Reserving.{reserving_inside, reserving_rests, begins_securing}
use Rattle.joint.proofs.engine.Engine.begin_securing.Goals as goal

pub index_mut-requires : goal.index_mut-requires
index_mut-requires g c =
    let l : c.args.who < length c.args.self.now.calls.items = reserving_inside g.P.Payload.same_as g.P.Payload.always_copies c.args.self.now.nodes c.args.self.now.machines.items c.args.self.now.calls.items c.requires.intact c.args.who c.requires.on in
    let v : vec_len c.args.self.now.calls ≡ length c.args.self.now.calls.items = search rules in
    omega (arith, l, v)

pub collect-requires-clause-rests : goal.collect-requires-clause-rests
collect-requires-clause-rests g c = (reserving_rests g.P.Payload.same_as g.P.Payload.always_copies c.args.self.now.nodes c.args.self.now.machines.items c.args.self.now.calls.items c.requires.intact c.args.who c.requires.on)

pub set_call-requires : goal.set_call-requires
set_call-requires g c = subst (λ (n : ℕ). c.args.who < n) (sym (ap length (let k : c.collect.new.self.calls.items ≡ slice_set c.args.self.now.calls.items c.args.who Idle = search rules in k) ∙ length-set c.args.self.now.calls.items c.args.who Idle)) (reserving_inside g.P.Payload.same_as g.P.Payload.always_copies c.args.self.now.nodes c.args.self.now.machines.items c.args.self.now.calls.items c.requires.intact c.args.who c.requires.on)

pub returns-clause-begins : goal.returns-clause-begins
returns-clause-begins g c =
    begins_securing g.P.Payload.same_as g.P.Payload.always_copies c.args.self.now.nodes c.args.self.now.machines.items c.args.self.now.calls.items c.requires.intact c.args.who c.progress.ensures c.in-Reserving.op (slice_get_read c.args.self.now.calls.items (length c.args.self.now.calls.items) c.args.who c.index_mut.result.now refl (reserving_inside g.P.Payload.same_as g.P.Payload.always_copies c.args.self.now.nodes c.args.self.now.machines.items c.args.self.now.calls.items c.requires.intact c.args.who c.requires.on) c.index_mut.ensures.value ∙ ap Some (sym c.in-Reserving.ensures.value)) c.collect.result c.collect.new.self.nodes
    (collected_at g.P.Payload.same_as g.P.Payload.always_copies c.args.self.now.nodes c.args.self.now.nodes c.collect.new.self.nodes c.args.self.now.machines.items c.args.self.now.machines.items c.args.who (Begin (Secure 2)) c.collect.result refl refl c.collect.ensures.collected)
    c.set_call.new.self.nodes c.set_call.new.self.machines.items c.set_call.new.self.calls.items c.set_call.ensures.nodes (ap (λ v. v.items) (c.set_call.ensures.machines ∙ c.collect.ensures.machines))
    (c.set_call.ensures.calls ∙ ap (λ xs. slice_set xs c.args.who (Securing c.in-Reserving.op)) ((let k : c.collect.new.self.calls.items ≡ slice_set c.args.self.now.calls.items c.args.who Idle = search rules in k)))
