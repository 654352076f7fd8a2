use Rattle.std.proofs.Common.{refl}
use Rattle.joint.specs.declared.steps.Event.TheVariants.{Register}
use Rattle.joint.specs.engine.Log.{no_log}
use Rattle.joint.proofs.lemmas.calls.CensusSteps.{counted_at, counted_registered}
use Rattle.joint.proofs.lemmas.engine.StepsByEvent.{register_is_step}
use Rattle.joint.proofs.engine.Engine.step_in.Goals as goal

pub returns-clause-step : goal.returns-clause-step
returns-clause-step g c = register_is_step g.P.Payload.same_as g.P.Payload.always_copies c.call_laws.ensures (record { forest = c.args.self.now.nodes; machines = c.args.self.now.machines.items; calls = c.args.self.now.calls.items; log = no_log }) (record { forest = c.register-report.new.self.nodes; machines = c.register-report.new.self.machines.items; calls = c.register-report.new.self.calls.items; log = no_log }) c.requires.holds (record { worker = c.args.worker; event = Register }) c.register-report.result c.register-report.ensures.intact c.charged.ensures.sum refl c.register-report.ensures.registers

pub returns-clause-counted : goal.returns-clause-counted
returns-clause-counted g c =
    counted_at _ _ _ _ _ _ c.register-report.ensures.census refl refl (counted_registered g.P.Payload.same_as g.P.Payload.always_copies (record { forest = c.args.self.now.nodes; machines = c.args.self.now.machines.items; calls = c.args.self.now.calls.items; log = no_log }) (record { forest = c.register-report.new.self.nodes; machines = c.register-report.new.self.machines.items; calls = c.register-report.new.self.calls.items; log = no_log }) c.args.self.now.census c.requires.counted c.register-report.result c.register-report.ensures.registers)
