use Rattle.std.proofs.Common.{◌≡◌, ◌<◌, ◌≤◌, length, arith, rules, sym, ◌∙◌, ap, subst, inl, inr}
use Rattle.joint.specs.engine.Log.{no_log}
use Rattle.joint.specs.declared.steps.Kind.TheVariants.{Collection}
use Rattle.joint.specs.declared.steps.Outcome.TheVariants.{Refused}
use Rattle.joint.specs.nodes.Nodes.{Nodes}
use Rattle.joint.specs.engine.Intact.{IsIntact}
use Rattle.joint.specs.Refusals.{of_fault}
use Rattle.joint.specs.engine.Engine.{quiet}
use Rattle.joint.proofs.lemmas.engine.Registered.{taken_at}
use Rattle.joint.proofs.engine.Engine.register.Goals as goal

pub overflow_cast-place : goal.overflow_cast-place
overflow_cast-place g c =
    let l : c.in-Ok.place < length c.args.self.now.nodes.collector.table = c.in-Ok.ensures.free.0 in
    let t : length c.args.self.now.nodes.collector.table ≡ length c.args.self.now.calls.items = c.requires.intact.table in
    let f : length c.args.self.now.calls.items ≤ 256 = c.requires.intact.few in
    let b : c.in-Ok.place < 256 = omega (arith, l, t, f) in
    search rules

pub returns-in-Ok-clause-intact : goal.returns-in-Ok-clause-intact
returns-in-Ok-clause-intact g c =
    taken_at g.P.Payload.same_as g.P.Payload.always_copies c.cell_laws.ensures c.call_laws.ensures c.args.self.now.nodes c.register.new.self c.args.self.now.machines.items c.args.self.now.calls.items c.requires.intact c.in-Ok.place c.in-Ok.ensures.free.0 c.in-Ok.ensures.free.1 c.in-Ok.ensures.state c.in-Ok.ensures.told

pub returns-in-Ok-clause-registers : goal.returns-in-Ok-clause-registers
returns-in-Ok-clause-registers g c =
    inl (c.in-Ok.place, record { inside = c.in-Ok.ensures.free.0; free = c.in-Ok.ensures.free.1; lowest = c.in-Ok.ensures.lowest; report = c.report.ensures; state = ap (λ f. record { forest = f; machines = c.args.self.now.machines.items; calls = c.args.self.now.calls.items; log = no_log }) c.in-Ok.ensures.state })

pub returns-in-Err-clause-intact : goal.returns-in-Err-clause-intact
returns-in-Err-clause-intact g c = subst (λ (f : Nodes _). IsIntact g.P.Payload.same_as g.P.Payload.always_copies f c.args.self.now.machines.items c.args.self.now.calls.items) (sym c.in-Err.ensures.state.1) c.requires.intact

pub returns-in-Err-clause-registers : goal.returns-in-Err-clause-registers
returns-in-Err-clause-registers g c =
    inr (record { full = c.in-Err.ensures.lowest; report = c.refused.ensures ∙ ap (λ f. quiet Collection (Refused f)) (c.of_fault.ensures ∙ ap of_fault c.in-Err.ensures.state.0); state = ap (λ f. record { forest = f; machines = c.args.self.now.machines.items; calls = c.args.self.now.calls.items; log = no_log }) c.in-Err.ensures.state.1 })
