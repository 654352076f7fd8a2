use Rattle.std.proofs.Common.{refl, subst}
use Rattle.joint.specs.declared.steps.Event.TheVariants.{Register}
use Rattle.joint.specs.world.World.{IsStep}
use Rattle.joint.specs.engine.Engine.{World}
use Rattle.joint.proofs.lemmas.calls.WorldSteps.{register_step}
use Rattle.joint.proofs.world.World.register.Goals as goal

pub invariant_of-self : goal.invariant_of-self
invariant_of-self g c =
    ((register_step g.P.Payload.same_as g.P.Payload.always_copies (record { forest = c.self.inside.engine.nodes; machines = c.self.inside.engine.machines.items; calls = c.self.inside.engine.calls.items; log = c.self.inside.log }) (record { forest = c.step_in.new.self.nodes; machines = c.step_in.new.self.machines.items; calls = c.step_in.new.self.calls.items; log = c.self.inside.log }) c.args.worker c.step_in.result c.self.invariant.0 c.step_in.ensures.step refl).holds, c.step_in.ensures.counted)

pub returns : goal.returns
returns g c =
    let P : World g.row.P.Denot → Type 0 = λ s. IsStep g.P.Payload.same_as g.P.Payload.always_copies s (record { worker = c.args.worker; event = Register }) c.step_in.result (record { forest = c.step_in.new.self.nodes; machines = c.step_in.new.self.machines.items; calls = c.step_in.new.self.calls.items; log = c.self.inside.log }) in
    subst P c.self.view_is (register_step g.P.Payload.same_as g.P.Payload.always_copies (record { forest = c.self.inside.engine.nodes; machines = c.self.inside.engine.machines.items; calls = c.self.inside.engine.calls.items; log = c.self.inside.log }) (record { forest = c.step_in.new.self.nodes; machines = c.step_in.new.self.machines.items; calls = c.step_in.new.self.calls.items; log = c.self.inside.log }) c.args.worker c.step_in.result c.self.invariant.0 c.step_in.ensures.step refl)
