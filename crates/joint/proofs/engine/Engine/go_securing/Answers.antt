use Rattle.std.proofs.Common.{◌≡◌, ◌<◌, arith, length, refl, rules, sym, ◌∙◌, ap}
use Rattle.std.specs.Prelude.{Some, slice_get, slice_set}
use Rattle.std.specs.Vec.{vec_len}
use Rattle.std.proofs.lemmas.Option.{slice_get_read}
use Rattle.crossbeam_epoch.specs.declared.world.report.Event.TheVariants.{Go}
use Rattle.congee.specs.protocol.Play.{begun}
use Rattle.joint.specs.Names.{root}
use Rattle.joint.specs.declared.engine.in_flight.InFlight.TheVariants.{Idle, Securing, Walking}
use Rattle.joint.proofs.lemmas.engine.Collecting.{collected_at, intact_at, securing_rests, securing_inside, secures_on, refused_then, free_intact, free_idle, free_may, started_then}
use Rattle.joint.proofs.engine.Engine.go_securing.Goals as goal

pub index_mut-requires : goal.index_mut-requires
index_mut-requires g c =
    let l : c.args.who < length c.args.self.now.calls.items = securing_inside g.P.Payload.same_as g.P.Payload.always_copies c.args.self.now.nodes c.args.self.now.machines.items c.args.self.now.calls.items c.requires.intact c.args.who c.requires.on in
    let v : vec_len c.args.self.now.calls ≡ length c.args.self.now.calls.items = search rules in
    omega (arith, l, v)

pub collect-report-requires-clause-rests : goal.collect-report-requires-clause-rests
collect-report-requires-clause-rests g c = (securing_rests g.P.Payload.same_as g.P.Payload.always_copies c.args.self.now.nodes c.args.self.now.machines.items c.args.self.now.calls.items c.requires.intact c.args.who c.requires.on)

pub start-requires-clause-intact : goal.start-requires-clause-intact
start-requires-clause-intact g c =
    intact_at g.P.Payload.same_as g.P.Payload.always_copies _ _ _ _ _ _ refl (ap (λ v. v.items) c.collect-report.ensures.machines) ((let k : c.collect-report.new.self.calls.items ≡ slice_set c.args.self.now.calls.items c.args.who Idle = search rules in k))
    (free_intact g.P.Payload.same_as g.P.Payload.always_copies c.args.self.now.nodes c.args.self.now.machines.items c.args.self.now.calls.items c.requires.intact c.args.who c.progress.ensures c.in-Securing.op (slice_get_read c.args.self.now.calls.items (length c.args.self.now.calls.items) c.args.who c.index_mut.result.now refl (securing_inside g.P.Payload.same_as g.P.Payload.always_copies c.args.self.now.nodes c.args.self.now.machines.items c.args.self.now.calls.items c.requires.intact c.args.who c.requires.on) c.index_mut.ensures.value ∙ ap Some (sym c.in-Securing.ensures.value)) c.collect-report.result c.collect-report.new.self.nodes (collected_at g.P.Payload.same_as g.P.Payload.always_copies c.args.self.now.nodes c.args.self.now.nodes c.collect-report.new.self.nodes c.args.self.now.machines.items c.args.self.now.machines.items c.args.who Go c.collect-report.result refl refl c.collect-report.ensures.collected) c.in-Done.is)

pub start-requires-clause-idle : goal.start-requires-clause-idle
start-requires-clause-idle g c = ap (λ xs. slice_get xs c.args.who) ((let k : c.collect-report.new.self.calls.items ≡ slice_set c.args.self.now.calls.items c.args.who Idle = search rules in k)) ∙ free_idle g.P.Payload.same_as g.P.Payload.always_copies c.args.self.now.nodes c.args.self.now.machines.items c.args.self.now.calls.items c.requires.intact c.args.who c.progress.ensures c.in-Securing.op (slice_get_read c.args.self.now.calls.items (length c.args.self.now.calls.items) c.args.who c.index_mut.result.now refl (securing_inside g.P.Payload.same_as g.P.Payload.always_copies c.args.self.now.nodes c.args.self.now.machines.items c.args.self.now.calls.items c.requires.intact c.args.who c.requires.on) c.index_mut.ensures.value ∙ ap Some (sym c.in-Securing.ensures.value)) c.collect-report.result c.collect-report.new.self.nodes (collected_at g.P.Payload.same_as g.P.Payload.always_copies c.args.self.now.nodes c.args.self.now.nodes c.collect-report.new.self.nodes c.args.self.now.machines.items c.args.self.now.machines.items c.args.who Go c.collect-report.result refl refl c.collect-report.ensures.collected)

pub start-requires-clause-may : goal.start-requires-clause-may
start-requires-clause-may g c = free_may g.P.Payload.same_as g.P.Payload.always_copies c.args.self.now.nodes c.args.self.now.machines.items c.args.self.now.calls.items c.requires.intact c.args.who c.progress.ensures c.in-Securing.op (slice_get_read c.args.self.now.calls.items (length c.args.self.now.calls.items) c.args.who c.index_mut.result.now refl (securing_inside g.P.Payload.same_as g.P.Payload.always_copies c.args.self.now.nodes c.args.self.now.machines.items c.args.self.now.calls.items c.requires.intact c.args.who c.requires.on) c.index_mut.ensures.value ∙ ap Some (sym c.in-Securing.ensures.value)) c.collect-report.result c.collect-report.new.self.nodes (collected_at g.P.Payload.same_as g.P.Payload.always_copies c.args.self.now.nodes c.args.self.now.nodes c.collect-report.new.self.nodes c.args.self.now.machines.items c.args.self.now.machines.items c.args.who Go c.collect-report.result refl refl c.collect-report.ensures.collected) c.in-Done.is

pub returns-in-Running-clause-secured : goal.returns-in-Running-clause-secured
returns-in-Running-clause-secured g c =
    let x = secures_on g.P.Payload.same_as g.P.Payload.always_copies c.args.self.now.nodes c.args.self.now.machines.items c.args.self.now.calls.items c.requires.intact c.args.who c.progress.ensures c.in-Securing.op (slice_get_read c.args.self.now.calls.items (length c.args.self.now.calls.items) c.args.who c.index_mut.result.now refl (securing_inside g.P.Payload.same_as g.P.Payload.always_copies c.args.self.now.nodes c.args.self.now.machines.items c.args.self.now.calls.items c.requires.intact c.args.who c.requires.on) c.index_mut.ensures.value ∙ ap Some (sym c.in-Securing.ensures.value)) c.collect-report.result c.collect-report.new.self.nodes (collected_at g.P.Payload.same_as g.P.Payload.always_copies c.args.self.now.nodes c.args.self.now.nodes c.collect-report.new.self.nodes c.args.self.now.machines.items c.args.self.now.machines.items c.args.who Go c.collect-report.result refl refl c.collect-report.ensures.collected) c.in-Running.is c.set_call.new.self.machines.items c.set_call.new.self.calls.items (ap (λ v. v.items) c.set_call.ensures.machines ∙ (ap (λ v. v.items) c.collect-report.ensures.machines)) (c.set_call.ensures.calls ∙ ap (λ xs. slice_set xs c.args.who (Securing c.in-Securing.op)) ((let k : c.collect-report.new.self.calls.items ≡ slice_set c.args.self.now.calls.items c.args.who Idle = search rules in k))) in
    rw c.set_call.ensures.nodes x

pub returns-in-Done-clause-secured : goal.returns-in-Done-clause-secured
returns-in-Done-clause-secured g c =
    started_then g.P.Payload.same_as g.P.Payload.always_copies c.args.self.now.nodes c.args.self.now.machines.items c.args.self.now.calls.items c.requires.intact c.args.who c.progress.ensures c.in-Securing.op (slice_get_read c.args.self.now.calls.items (length c.args.self.now.calls.items) c.args.who c.index_mut.result.now refl (securing_inside g.P.Payload.same_as g.P.Payload.always_copies c.args.self.now.nodes c.args.self.now.machines.items c.args.self.now.calls.items c.requires.intact c.args.who c.requires.on) c.index_mut.ensures.value ∙ ap Some (sym c.in-Securing.ensures.value)) c.collect-report.result c.collect-report.new.self.nodes (collected_at g.P.Payload.same_as g.P.Payload.always_copies c.args.self.now.nodes c.args.self.now.nodes c.collect-report.new.self.nodes c.args.self.now.machines.items c.args.self.now.machines.items c.args.who Go c.collect-report.result refl refl c.collect-report.ensures.collected) c.in-Done.is c.start.new.self.nodes c.start.new.self.machines.items c.start.new.self.calls.items c.start.ensures.nodes
    (c.start.ensures.machines ∙ ap (λ xs. slice_set xs c.args.who (begun root c.in-Securing.op)) (ap (λ v. v.items) c.collect-report.ensures.machines)) (c.start.ensures.calls ∙ ap (λ xs. slice_set xs c.args.who Walking) ((let k : c.collect-report.new.self.calls.items ≡ slice_set c.args.self.now.calls.items c.args.who Idle = search rules in k))) c.start.ensures.intact

pub returns-in-Refused-clause-secured : goal.returns-in-Refused-clause-secured
returns-in-Refused-clause-secured g c =
    refused_then g.P.Payload.same_as g.P.Payload.always_copies c.args.self.now.nodes c.args.self.now.machines.items c.args.self.now.calls.items c.requires.intact c.args.who c.progress.ensures c.in-Securing.op (slice_get_read c.args.self.now.calls.items (length c.args.self.now.calls.items) c.args.who c.index_mut.result.now refl (securing_inside g.P.Payload.same_as g.P.Payload.always_copies c.args.self.now.nodes c.args.self.now.machines.items c.args.self.now.calls.items c.requires.intact c.args.who c.requires.on) c.index_mut.ensures.value ∙ ap Some (sym c.in-Securing.ensures.value)) c.collect-report.result c.collect-report.new.self.nodes (collected_at g.P.Payload.same_as g.P.Payload.always_copies c.args.self.now.nodes c.args.self.now.nodes c.collect-report.new.self.nodes c.args.self.now.machines.items c.args.self.now.machines.items c.args.who Go c.collect-report.result refl refl c.collect-report.ensures.collected) c.in-Refused.field-0 c.in-Refused.is c.collect-report.new.self.machines.items c.collect-report.new.self.calls.items (ap (λ v. v.items) c.collect-report.ensures.machines) ((let k : c.collect-report.new.self.calls.items ≡ slice_set c.args.self.now.calls.items c.args.who Idle = search rules in k))
