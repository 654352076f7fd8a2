use Rattle.std.proofs.Common.{sym, subst}
use Rattle.joint.specs.declared.steps.Event.{Event}
use Rattle.joint.specs.world.World.{IsStep}
use Rattle.joint.proofs.world.World.step.Goals as goal

pub returns-in-Register : goal.returns-in-Register
returns-in-Register g c =
    let P : Event g.row.P.Denot → Type 0 = λ e. IsStep g.P.Payload.same_as g.P.Payload.always_copies c.args.self.now (record { worker = c.args.step.worker; event = e }) c.register.result c.register.new.self in
    subst P (sym c.in-Register.is) c.register.ensures

pub returns-in-Begin : goal.returns-in-Begin
returns-in-Begin g c =
    let P : Event g.row.P.Denot → Type 0 = λ e. IsStep g.P.Payload.same_as g.P.Payload.always_copies c.args.self.now (record { worker = c.args.step.worker; event = e }) c.begin.result c.begin.new.self in
    subst P (sym c.in-Begin.is) c.begin.ensures

pub returns-in-Go : goal.returns-in-Go
returns-in-Go g c =
    let P : Event g.row.P.Denot → Type 0 = λ e. IsStep g.P.Payload.same_as g.P.Payload.always_copies c.args.self.now (record { worker = c.args.step.worker; event = e }) c.go.result c.go.new.self in
    subst P (sym c.in-Go.is) c.go.ensures
