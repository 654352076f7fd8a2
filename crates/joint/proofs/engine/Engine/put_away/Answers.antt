use Rattle.std.proofs.Common.{◌<◌, ℕ, length, refl, sym, ◌∙◌, ap, subst}
use Rattle.std.specs.Prelude.{slice_set, if◌then◌else◌}
use Rattle.std.proofs.lemmas.Option.{slice_get_read}
use Rattle.joint.specs.declared.engine.in_flight.InFlight.TheVariants.{Idle}
use Rattle.joint.specs.engine.Intact.{cleared, cleared_at, resting}
use Rattle.joint.proofs.engine.Engine.put_away.Goals as goal

pub set_machine-requires : goal.set_machine-requires
set_machine-requires g c =
    let P : ℕ → Type 0 = λ n. c.args.who < n in
    subst P (sym (ap (λ v. length v.items) c.set_call.ensures.machines)) c.requires.machines

pub returns-then-is_in_flight-clause-machines : goal.returns-then-is_in_flight-clause-machines
returns-then-is_in_flight-clause-machines g c = sym (ap (λ b. if b then c.args.self.now.machines.items else cleared c.args.self.now.machines.items c.args.who) (sym c.is_in_flight.ensures ∙ c.if-is_in_flight.true))

pub returns-then-is_in_flight-clause-calls : goal.returns-then-is_in_flight-clause-calls
returns-then-is_in_flight-clause-calls g c = sym (ap (λ b. if b then c.args.self.now.calls.items else slice_set c.args.self.now.calls.items c.args.who Idle) (sym c.is_in_flight.ensures ∙ c.if-is_in_flight.true))

pub returns-then-scanned-clause-machines : goal.returns-then-scanned-clause-machines
returns-then-scanned-clause-machines g c =
    c.set_machine.ensures.machines ∙ ap (λ v. slice_set v.items c.args.who c.resting.result) c.set_call.ensures.machines ∙ ap (slice_set c.args.self.now.machines.items c.args.who) c.resting.ensures
    ∙ sym (ap (λ o. cleared_at o c.args.self.now.machines.items c.args.who) (slice_get_read c.args.self.now.machines.items (length c.args.self.now.machines.items) c.args.who c.index.result.now refl c.requires.machines c.index.ensures) ∙ ap (λ b. if b then slice_set c.args.self.now.machines.items c.args.who resting else c.args.self.now.machines.items) (sym c.has_scanned-scanned.ensures ∙ c.if-scanned.true))
    ∙ sym (ap (λ b. if b then c.args.self.now.machines.items else cleared c.args.self.now.machines.items c.args.who) (sym c.is_in_flight.ensures ∙ c.if-is_in_flight.false))

pub returns-then-scanned-clause-calls : goal.returns-then-scanned-clause-calls
returns-then-scanned-clause-calls g c = ap (λ v. v.items) c.set_machine.ensures.calls ∙ c.set_call.ensures.calls ∙ sym (ap (λ b. if b then c.args.self.now.calls.items else slice_set c.args.self.now.calls.items c.args.who Idle) (sym c.is_in_flight.ensures ∙ c.if-is_in_flight.false))

pub returns-else-scanned-clause-machines : goal.returns-else-scanned-clause-machines
returns-else-scanned-clause-machines g c =
    ap (λ v. v.items) c.set_call.ensures.machines
    ∙ sym (ap (λ o. cleared_at o c.args.self.now.machines.items c.args.who) (slice_get_read c.args.self.now.machines.items (length c.args.self.now.machines.items) c.args.who c.index.result.now refl c.requires.machines c.index.ensures) ∙ ap (λ b. if b then slice_set c.args.self.now.machines.items c.args.who resting else c.args.self.now.machines.items) (sym c.has_scanned-scanned.ensures ∙ c.if-scanned.false))
    ∙ sym (ap (λ b. if b then c.args.self.now.machines.items else cleared c.args.self.now.machines.items c.args.who) (sym c.is_in_flight.ensures ∙ c.if-is_in_flight.false))

pub returns-else-scanned-clause-calls : goal.returns-else-scanned-clause-calls
returns-else-scanned-clause-calls g c = c.set_call.ensures.calls ∙ sym (ap (λ b. if b then c.args.self.now.calls.items else slice_set c.args.self.now.calls.items c.args.who Idle) (sym c.is_in_flight.ensures ∙ c.if-is_in_flight.false))
