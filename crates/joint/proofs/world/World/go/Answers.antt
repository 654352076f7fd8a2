use Rattle.std.proofs.Common.{◌≡◌, false, sym, ◌∙◌, subst}
use Rattle.std.specs.Prelude.{ltb}
use Rattle.joint.specs.declared.steps.Event.TheVariants.{Go}
use Rattle.joint.specs.engine.Log.{request_at}
use Rattle.joint.specs.world.World.{IsStep}
use Rattle.joint.specs.engine.Engine.{World}
use Rattle.joint.proofs.lemmas.calls.WorldSteps.{unkept_step}
use Rattle.joint.proofs.world.World.go.Goals as goal

pub invariant_of-self : goal.invariant_of-self
invariant_of-self g c =
    let given : ltb 0 c.self.inside.log.places ≡ false = sym c.is_kept.ensures ∙ c.if-is_kept.false in (
      (unkept_step g.P.Payload.same_as g.P.Payload.always_copies (record { forest = c.self.inside.engine.nodes; machines = c.self.inside.engine.machines.items; calls = c.self.inside.engine.calls.items; log = c.self.inside.log }) (record { forest = c.step_on-told.new.self.nodes; machines = c.step_on-told.new.self.machines.items; calls = c.step_on-told.new.self.calls.items; log = c.put_request_if.new.self }) c.args.worker c.args.noise (request_at c.take_answer.new.log.requests c.args.worker) c.take_answer.new.log c.is_in_flight.result c.step_on-told.result c.self.invariant.0 c.step_on-told.ensures.step given
          c.take_answer.ensures.answered c.take_answer.ensures.left c.put_request_if.ensures c.is_in_flight.ensures).holds,
      c.step_on-told.ensures.counted,
    )

pub returns : goal.returns
returns g c =
    let given : ltb 0 c.self.inside.log.places ≡ false = sym c.is_kept.ensures ∙ c.if-is_kept.false in
    let P : World g.row.P.Denot → Type 0 = λ s. IsStep g.P.Payload.same_as g.P.Payload.always_copies s (record { worker = c.args.worker; event = Go c.args.noise }) c.step_on-told.result (record { forest = c.step_on-told.new.self.nodes; machines = c.step_on-told.new.self.machines.items; calls = c.step_on-told.new.self.calls.items; log = c.put_request_if.new.self }) in
    subst P c.self.view_is (unkept_step g.P.Payload.same_as g.P.Payload.always_copies (record { forest = c.self.inside.engine.nodes; machines = c.self.inside.engine.machines.items; calls = c.self.inside.engine.calls.items; log = c.self.inside.log }) (record { forest = c.step_on-told.new.self.nodes; machines = c.step_on-told.new.self.machines.items; calls = c.step_on-told.new.self.calls.items; log = c.put_request_if.new.self }) c.args.worker c.args.noise (request_at c.take_answer.new.log.requests c.args.worker) c.take_answer.new.log c.is_in_flight.result c.step_on-told.result c.self.invariant.0 c.step_on-told.ensures.step given
    c.take_answer.ensures.answered c.take_answer.ensures.left c.put_request_if.ensures c.is_in_flight.ensures)
