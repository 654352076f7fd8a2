use Rattle.std.proofs.Common.{◌∙◌, ap}
use Rattle.std.specs.Prelude.{slice_set}
use Rattle.joint.specs.declared.engine.in_flight.InFlight.TheVariants.{Idle}
use Rattle.joint.proofs.lemmas.engine.Collecting.{call_inside, idle_rests, begin_collecting_intact, intact_at}
use Rattle.joint.proofs.engine.Engine.begin_collecting.Goals as goal

pub collect-report-requires-clause-rests : goal.collect-report-requires-clause-rests
collect-report-requires-clause-rests g c = idle_rests g.P.Payload.same_as g.P.Payload.always_copies c.args.self.now.nodes c.args.self.now.machines.items c.args.self.now.calls.items c.requires.intact c.args.who c.requires.idle

pub set_call-requires : goal.set_call-requires
set_call-requires g c = rw c.collect-report.ensures.calls (call_inside g.P.Payload.same_as g.P.Payload.always_copies c.args.self.now.nodes c.args.self.now.machines.items c.args.self.now.calls.items c.requires.intact c.args.who Idle c.requires.idle)

pub returns-clause-intact : goal.returns-clause-intact
returns-clause-intact g c =
    intact_at g.P.Payload.same_as g.P.Payload.always_copies _ _ _ _ _ _ c.set_call.ensures.nodes (ap (λ v. v.items) (c.set_call.ensures.machines ∙ c.collect-report.ensures.machines))
    (c.set_call.ensures.calls ∙ ap (λ v. slice_set v.items c.args.who c.call_after.result) c.collect-report.ensures.calls ∙ ap (slice_set c.args.self.now.calls.items c.args.who) c.call_after.ensures)
    (begin_collecting_intact g.P.Payload.same_as g.P.Payload.always_copies c.progress.ensures c.args.self.now.nodes c.args.self.now.machines.items c.args.self.now.calls.items c.requires.intact c.args.who c.args.op c.collect-report.result c.collect-report.new.self.nodes c.requires.idle c.collect-report.ensures.collected)

pub returns-clause-collected : goal.returns-clause-collected
returns-clause-collected g c = rw c.set_call.ensures.nodes c.collect-report.ensures.collected

pub returns-clause-calls : goal.returns-clause-calls
returns-clause-calls g c =
    c.set_call.ensures.calls ∙ ap (λ v. slice_set v.items c.args.who c.call_after.result) c.collect-report.ensures.calls ∙ ap (slice_set c.args.self.now.calls.items c.args.who) c.call_after.ensures
