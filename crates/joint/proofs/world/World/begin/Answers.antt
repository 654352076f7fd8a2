use Rattle.std.proofs.Common.{◌∙◌, ap, subst}
use Rattle.joint.specs.declared.steps.Event.TheVariants.{Begin}
use Rattle.joint.specs.engine.Log.{with_request}
use Rattle.joint.specs.world.World.{IsStep}
use Rattle.joint.specs.engine.Engine.{World}
use Rattle.joint.proofs.lemmas.calls.WorldSteps.{begin_step}
use Rattle.joint.proofs.lemmas.nodes.TableLookups.{there_is}
use Rattle.joint.proofs.world.World.begin.Goals as goal

pub invariant_of-self : goal.invariant_of-self
invariant_of-self g c = (
  (begin_step g.P.Payload.same_as g.P.Payload.always_copies (record { forest = c.self.inside.engine.nodes; machines = c.self.inside.engine.machines.items; calls = c.self.inside.engine.calls.items; log = c.self.inside.log }) (record { forest = c.step_begin-report.new.self.nodes; machines = c.step_begin-report.new.self.machines.items; calls = c.step_begin-report.new.self.calls.items; log = c.put_request_if.new.self }) c.args.worker c.args.op c.of-request.result c.step_begin-report.result c.self.invariant.0 c.step_begin-report.ensures.step
      (λ a. there_is c.of-request.result _ c.of-request.ensures.equal (c.of-request.ensures.always a)) (c.put_request_if.ensures ∙ ap (λ b. with_request c.self.inside.log c.args.worker b c.of-request.result) c.is_in_flight-on.ensures)).holds,
  c.step_begin-report.ensures.counted,
)

pub returns : goal.returns
returns g c =
    let P : World g.row.P.Denot → Type 0 = λ s. IsStep g.P.Payload.same_as g.P.Payload.always_copies s (record { worker = c.args.worker; event = Begin c.args.op }) c.step_begin-report.result (record { forest = c.step_begin-report.new.self.nodes; machines = c.step_begin-report.new.self.machines.items; calls = c.step_begin-report.new.self.calls.items; log = c.put_request_if.new.self }) in
    subst P c.self.view_is (begin_step g.P.Payload.same_as g.P.Payload.always_copies (record { forest = c.self.inside.engine.nodes; machines = c.self.inside.engine.machines.items; calls = c.self.inside.engine.calls.items; log = c.self.inside.log }) (record { forest = c.step_begin-report.new.self.nodes; machines = c.step_begin-report.new.self.machines.items; calls = c.step_begin-report.new.self.calls.items; log = c.put_request_if.new.self }) c.args.worker c.args.op c.of-request.result c.step_begin-report.result c.self.invariant.0 c.step_begin-report.ensures.step
    (λ a. there_is c.of-request.result _ c.of-request.ensures.equal (c.of-request.ensures.always a)) (c.put_request_if.ensures ∙ ap (λ b. with_request c.self.inside.log c.args.worker b c.of-request.result) c.is_in_flight-on.ensures))
