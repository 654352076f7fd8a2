use Rattle.std.proofs.Common.{◌≡◌, refl}
use Rattle.std.specs.Prelude.{Some, slice_get}
use Rattle.joint.specs.declared.steps.Event.TheVariants.{Go}
use Rattle.joint.specs.declared.engine.in_flight.InFlight.TheVariants.{Walking}
use Rattle.joint.specs.engine.Log.{no_log}
use Rattle.joint.proofs.lemmas.engine.StepsByEvent.{go_is_step}
use Rattle.joint.proofs.lemmas.engine.Proceeding.{go_does}
use Rattle.joint.proofs.lemmas.engine.Walking.{registered}
use Rattle.joint.proofs.engine.Engine.step_on.Goals as goal

pub returns-then-is_walking-clause-step : goal.returns-then-is_walking-clause-step
returns-then-is_walking-clause-step g c =
    let on : slice_get c.args.self.now.calls.items c.args.worker ≡ Some Walking = c.is_walking.ensures.walking c.if-is_walking.true in
    go_is_step g.P.Payload.same_as g.P.Payload.always_copies c.call_laws.ensures (record { forest = c.args.self.now.nodes; machines = c.args.self.now.machines.items; calls = c.args.self.now.calls.items; log = no_log }) (record { forest = c.go_on_tree.new.self.nodes; machines = c.go_on_tree.new.self.machines.items; calls = c.go_on_tree.new.self.calls.items; log = no_log }) c.requires.holds (record { worker = c.args.worker; event = Go c.args.noise }) c.go_on_tree.result c.go_on_tree.ensures.intact c.go_on_tree.ensures.charged c.args.noise refl
    (go_does g.P.Payload.same_as g.P.Payload.always_copies (record { forest = c.args.self.now.nodes; machines = c.args.self.now.machines.items; calls = c.args.self.now.calls.items; log = no_log }) c.args.worker (registered g.P.Payload.same_as g.P.Payload.always_copies c.args.self.now.nodes c.args.self.now.machines.items c.args.self.now.calls.items c.requires.holds.0 c.args.worker on) c.args.noise c.go_on_tree.result (record { forest = c.go_on_tree.new.self.nodes; machines = c.go_on_tree.new.self.machines.items; calls = c.go_on_tree.new.self.calls.items; log = no_log }) Walking on refl c.go_on_tree.ensures.walks)

pub returns-else-is_walking-clause-step : goal.returns-else-is_walking-clause-step
returns-else-is_walking-clause-step g c =
    go_is_step g.P.Payload.same_as g.P.Payload.always_copies c.call_laws.ensures (record { forest = c.args.self.now.nodes; machines = c.args.self.now.machines.items; calls = c.args.self.now.calls.items; log = no_log }) (record { forest = c.go_other.new.self.nodes; machines = c.go_other.new.self.machines.items; calls = c.go_other.new.self.calls.items; log = no_log }) c.requires.holds (record { worker = c.args.worker; event = Go c.args.noise }) c.go_other.result c.go_other.ensures.intact c.go_other.ensures.charged c.args.noise refl
    (c.go_other.ensures.does c.args.noise)
