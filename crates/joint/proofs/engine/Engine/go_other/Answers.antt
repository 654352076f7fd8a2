use Rattle.std.proofs.Common.{◌≡◌, ◌<◌, ℕ, arith, length, refl, rules, sym, ◌∙◌, ap, subst}
use Rattle.std.specs.Prelude.{Some, slice_get}
use Rattle.std.specs.Vec.{vec_len}
use Rattle.std.proofs.lemmas.Option.{slice_get_read}
use Rattle.crossbeam_epoch.specs.world.Machine.{place}
use Rattle.joint.specs.engine.Log.{no_log}
use Rattle.joint.specs.declared.engine.in_flight.InFlight.TheVariants.{Collecting, Reserving, Securing}
use Rattle.joint.specs.engine.Intact.{IsSecuring, is_reserving}
use Rattle.joint.specs.engine.Engine.{collection}
use Rattle.joint.proofs.lemmas.calls.CensusSteps.{counted_at, counted_collected, counted_secured}
use Rattle.joint.proofs.lemmas.engine.Reserving.{next_here}
use Rattle.joint.proofs.lemmas.engine.Proceeding.{go_unknown, go_idle, go_does}
use Rattle.joint.proofs.engine.Engine.go_other.Goals as goal

pub index-requires : goal.index-requires
index-requires g c =
    let l : c.args.who < length c.args.self.now.calls.items = subst (λ (n : ℕ). c.args.who < n) (ap (λ s. length s.nodes.collector.table) c.self.view_is ∙ c.requires.intact.table) (c.is_registered.ensures.inside c.if-not-is_registered.false) in
    let v : vec_len c.args.self.now.calls ≡ length c.args.self.now.calls.items = search rules in
    omega (arith, l, v, ap (λ e. vec_len e.calls) c.self.view_is)

pub go_collecting-collector_report-requires-clause-on : goal.go_collecting-collector_report-requires-clause-on
go_collecting-collector_report-requires-clause-on g c = sym (ap (λ e. slice_get e.calls.items c.args.who) c.self.view_is) ∙ slice_get_read _ _ c.args.who c.index.result.now refl (subst (λ (n : ℕ). c.args.who < n) (sym (ap (λ e. length e.calls.items) c.self.view_is)) (subst (λ (n : ℕ). c.args.who < n) (ap (λ s. length s.nodes.collector.table) c.self.view_is ∙ c.requires.intact.table) (c.is_registered.ensures.inside c.if-not-is_registered.false))) c.index.ensures ∙ ap Some c.in-Collecting.is

pub begin_securing-requires-clause-on : goal.begin_securing-requires-clause-on
begin_securing-requires-clause-on g c = ap is_reserving (sym (ap (λ e. slice_get e.calls.items c.args.who) c.self.view_is) ∙ slice_get_read _ _ c.args.who c.index.result.now refl (subst (λ (n : ℕ). c.args.who < n) (sym (ap (λ e. length e.calls.items) c.self.view_is)) (subst (λ (n : ℕ). c.args.who < n) (ap (λ s. length s.nodes.collector.table) c.self.view_is ∙ c.requires.intact.table) (c.is_registered.ensures.inside c.if-not-is_registered.false))) c.index.ensures ∙ ap Some c.in-Reserving.is)

pub go_securing-collector_report-requires-clause-on : goal.go_securing-collector_report-requires-clause-on
go_securing-collector_report-requires-clause-on g c =
    let P : _ → Type 0 = λ o. IsSecuring o in
    subst P (sym (next_here g.P.Payload.same_as g.P.Payload.always_copies c.args.self.now.nodes c.args.self.now.machines.items c.args.self.now.calls.items c.args.who c.begin_securing.new.self.nodes c.begin_securing.new.self.machines.items c.begin_securing.new.self.calls.items c.begin_securing.ensures.begins c.in-Reserving.field-0 (sym (ap (λ e. slice_get e.calls.items c.args.who) c.self.view_is) ∙ slice_get_read _ _ c.args.who c.index.result.now refl (subst (λ (n : ℕ). c.args.who < n) (sym (ap (λ e. length e.calls.items) c.self.view_is)) (subst (λ (n : ℕ). c.args.who < n) (ap (λ s. length s.nodes.collector.table) c.self.view_is ∙ c.requires.intact.table) (c.is_registered.ensures.inside c.if-not-is_registered.false))) c.index.ensures ∙ ap Some c.in-Reserving.is))) tt

pub go_securing-collector_report-requires-in-Securing-clause-on : goal.go_securing-collector_report-requires-in-Securing-clause-on
go_securing-collector_report-requires-in-Securing-clause-on g c = let P : _ → Type 0 = λ o. IsSecuring o in subst P (sym (sym (ap (λ e. slice_get e.calls.items c.args.who) c.self.view_is) ∙ slice_get_read _ _ c.args.who c.index.result.now refl (subst (λ (n : ℕ). c.args.who < n) (sym (ap (λ e. length e.calls.items) c.self.view_is)) (subst (λ (n : ℕ). c.args.who < n) (ap (λ s. length s.nodes.collector.table) c.self.view_is ∙ c.requires.intact.table) (c.is_registered.ensures.inside c.if-not-is_registered.false))) c.index.ensures ∙ ap Some c.in-Securing.is)) tt

pub unreachable-requires : goal.unreachable-requires
unreachable-requires g c = c.requires.other (sym (ap (λ e. slice_get e.calls.items c.args.who) c.self.view_is) ∙ slice_get_read _ _ c.args.who c.index.result.now refl (subst (λ (n : ℕ). c.args.who < n) (sym (ap (λ e. length e.calls.items) c.self.view_is)) (subst (λ (n : ℕ). c.args.who < n) (ap (λ s. length s.nodes.collector.table) c.self.view_is ∙ c.requires.intact.table) (c.is_registered.ensures.inside c.if-not-is_registered.false))) c.index.ensures ∙ ap Some c.in-Walking.is)

pub returns-then-not-is_registered-clause-does : goal.returns-then-not-is_registered-clause-does
returns-then-not-is_registered-clause-does g c noise = go_unknown g.P.Payload.same_as g.P.Payload.always_copies (record { forest = c.args.self.now.nodes; machines = c.args.self.now.machines.items; calls = c.args.self.now.calls.items; log = no_log }) c.args.who noise c.refused.result (sym (c.is_registered.ensures.value ∙ (ap (λ s. (place s.nodes.collector c.args.who).registered) c.self.view_is)) ∙ c.if-not-is_registered.true) c.refused.ensures

pub returns-in-Idle-clause-does : goal.returns-in-Idle-clause-does
returns-in-Idle-clause-does g c noise = go_idle g.P.Payload.same_as g.P.Payload.always_copies (record { forest = c.args.self.now.nodes; machines = c.args.self.now.machines.items; calls = c.args.self.now.calls.items; log = no_log }) c.args.who (sym (c.is_registered.ensures.value ∙ (ap (λ s. (place s.nodes.collector c.args.who).registered) c.self.view_is)) ∙ c.if-not-is_registered.false) noise c.refused-in-Idle.result (sym (ap (λ e. slice_get e.calls.items c.args.who) c.self.view_is) ∙ slice_get_read _ _ c.args.who c.index.result.now refl (subst (λ (n : ℕ). c.args.who < n) (sym (ap (λ e. length e.calls.items) c.self.view_is)) (subst (λ (n : ℕ). c.args.who < n) (ap (λ s. length s.nodes.collector.table) c.self.view_is ∙ c.requires.intact.table) (c.is_registered.ensures.inside c.if-not-is_registered.false))) c.index.ensures ∙ ap Some c.in-Idle.is) c.refused-in-Idle.ensures

pub returns-in-Collecting-clause-does : goal.returns-in-Collecting-clause-does
returns-in-Collecting-clause-does g c noise =
    go_does g.P.Payload.same_as g.P.Payload.always_copies (record { forest = c.args.self.now.nodes; machines = c.args.self.now.machines.items; calls = c.args.self.now.calls.items; log = no_log }) c.args.who (sym (c.is_registered.ensures.value ∙ (ap (λ s. (place s.nodes.collector c.args.who).registered) c.self.view_is)) ∙ c.if-not-is_registered.false) noise c.collection.result (record { forest = c.go_collecting-collector_report.new.self.nodes; machines = c.go_collecting-collector_report.new.self.machines.items; calls = c.go_collecting-collector_report.new.self.calls.items; log = no_log }) (Collecting c.in-Collecting.op) (sym (ap (λ e. slice_get e.calls.items c.args.who) c.self.view_is) ∙ slice_get_read _ _ c.args.who c.index.result.now refl (subst (λ (n : ℕ). c.args.who < n) (sym (ap (λ e. length e.calls.items) c.self.view_is)) (subst (λ (n : ℕ). c.args.who < n) (ap (λ s. length s.nodes.collector.table) c.self.view_is ∙ c.requires.intact.table) (c.is_registered.ensures.inside c.if-not-is_registered.false))) c.index.ensures ∙ ap Some c.in-Collecting.is) refl
    (record { collector_report = c.go_collecting-collector_report.result; step = c.go_collecting-collector_report.ensures.collected; machines = ap (λ v. v.items) c.go_collecting-collector_report.ensures.machines; calls = c.go_collecting-collector_report.ensures.calls; report = c.collection.ensures ∙ ap (collection c.go_collecting-collector_report.result) c.of_collector.ensures })

pub returns-in-Reserving-clause-does : goal.returns-in-Reserving-clause-does
returns-in-Reserving-clause-does g c noise =
    go_does g.P.Payload.same_as g.P.Payload.always_copies (record { forest = c.args.self.now.nodes; machines = c.args.self.now.machines.items; calls = c.args.self.now.calls.items; log = no_log }) c.args.who (sym (c.is_registered.ensures.value ∙ (ap (λ s. (place s.nodes.collector c.args.who).registered) c.self.view_is)) ∙ c.if-not-is_registered.false) noise c.collection-in-Reserving.result (record { forest = c.go_securing-collector_report.new.self.nodes; machines = c.go_securing-collector_report.new.self.machines.items; calls = c.go_securing-collector_report.new.self.calls.items; log = no_log }) (Reserving c.in-Reserving.field-0) (sym (ap (λ e. slice_get e.calls.items c.args.who) c.self.view_is) ∙ slice_get_read _ _ c.args.who c.index.result.now refl (subst (λ (n : ℕ). c.args.who < n) (sym (ap (λ e. length e.calls.items) c.self.view_is)) (subst (λ (n : ℕ). c.args.who < n) (ap (λ s. length s.nodes.collector.table) c.self.view_is ∙ c.requires.intact.table) (c.is_registered.ensures.inside c.if-not-is_registered.false))) c.index.ensures ∙ ap Some c.in-Reserving.is) refl
    (record {
      between = record { forest = c.begin_securing.new.self.nodes; machines = c.begin_securing.new.self.machines.items; calls = c.begin_securing.new.self.calls.items; log = no_log };
      begins = c.begin_securing.ensures.begins;
      goes = record { collector_report = c.go_securing-collector_report.result; step = c.go_securing-collector_report.ensures.secured; report = c.collection-in-Reserving.ensures ∙ ap (collection c.go_securing-collector_report.result) c.reserving.ensures };
    })

pub returns-in-Securing-clause-does : goal.returns-in-Securing-clause-does
returns-in-Securing-clause-does g c noise =
    go_does g.P.Payload.same_as g.P.Payload.always_copies (record { forest = c.args.self.now.nodes; machines = c.args.self.now.machines.items; calls = c.args.self.now.calls.items; log = no_log }) c.args.who (sym (c.is_registered.ensures.value ∙ (ap (λ s. (place s.nodes.collector c.args.who).registered) c.self.view_is)) ∙ c.if-not-is_registered.false) noise c.collection-in-Securing.result (record { forest = c.go_securing-collector_report-in-Securing.new.self.nodes; machines = c.go_securing-collector_report-in-Securing.new.self.machines.items; calls = c.go_securing-collector_report-in-Securing.new.self.calls.items; log = no_log }) (Securing c.in-Securing.field-0) (sym (ap (λ e. slice_get e.calls.items c.args.who) c.self.view_is) ∙ slice_get_read _ _ c.args.who c.index.result.now refl (subst (λ (n : ℕ). c.args.who < n) (sym (ap (λ e. length e.calls.items) c.self.view_is)) (subst (λ (n : ℕ). c.args.who < n) (ap (λ s. length s.nodes.collector.table) c.self.view_is ∙ c.requires.intact.table) (c.is_registered.ensures.inside c.if-not-is_registered.false))) c.index.ensures ∙ ap Some c.in-Securing.is) refl
    (record { collector_report = c.go_securing-collector_report-in-Securing.result; step = c.go_securing-collector_report-in-Securing.ensures.secured; report = c.collection-in-Securing.ensures ∙ ap (collection c.go_securing-collector_report-in-Securing.result) c.reserving-in-Securing.ensures })

pub returns-in-Collecting-clause-counted : goal.returns-in-Collecting-clause-counted
returns-in-Collecting-clause-counted g c =
    counted_at _ _ _ _ _ _ c.go_collecting-collector_report.ensures.census refl (ap (λ v. v.items) c.go_collecting-collector_report.ensures.machines)
    (counted_collected c.args.self.now.census c.args.self.now.nodes c.args.self.now.machines.items c.requires.counted c.go_collecting-collector_report.new.self.nodes c.go_collecting-collector_report.ensures.collected.map c.go_collecting-collector_report.ensures.collected.destroys)

pub returns-in-Reserving-clause-counted : goal.returns-in-Reserving-clause-counted
returns-in-Reserving-clause-counted g c =
    let b = c.begin_securing.ensures.begins in
    let counted = counted_at c.args.self.now.census c.args.self.now.census c.begin_securing.new.self.nodes c.begin_securing.new.self.nodes c.args.self.now.machines.items c.begin_securing.new.self.machines.items refl refl b.machine
    (counted_collected c.args.self.now.census c.args.self.now.nodes c.args.self.now.machines.items c.requires.counted c.begin_securing.new.self.nodes b.collected.map b.collected.destroys) in
    counted_at c.args.self.now.census c.go_securing-collector_report.new.self.census c.go_securing-collector_report.new.self.nodes c.go_securing-collector_report.new.self.nodes c.go_securing-collector_report.new.self.machines.items c.go_securing-collector_report.new.self.machines.items (c.go_securing-collector_report.ensures.census ∙ c.begin_securing.ensures.census) refl refl
    (counted_secured g.P.Payload.same_as g.P.Payload.always_copies c.begin_securing.new.self.nodes c.begin_securing.new.self.machines.items c.begin_securing.new.self.calls.items b.intact c.args.self.now.census counted c.args.who c.in-Reserving.field-0
    (next_here g.P.Payload.same_as g.P.Payload.always_copies c.args.self.now.nodes c.args.self.now.machines.items c.args.self.now.calls.items c.args.who c.begin_securing.new.self.nodes c.begin_securing.new.self.machines.items c.begin_securing.new.self.calls.items b c.in-Reserving.field-0 (sym (ap (λ e. slice_get e.calls.items c.args.who) c.self.view_is) ∙ slice_get_read _ _ c.args.who c.index.result.now refl (subst (λ (n : ℕ). c.args.who < n) (sym (ap (λ e. length e.calls.items) c.self.view_is)) (subst (λ (n : ℕ). c.args.who < n) (ap (λ s. length s.nodes.collector.table) c.self.view_is ∙ c.requires.intact.table) (c.is_registered.ensures.inside c.if-not-is_registered.false))) c.index.ensures ∙ ap Some c.in-Reserving.is))
    c.go_securing-collector_report.result c.go_securing-collector_report.new.self.nodes c.go_securing-collector_report.new.self.machines.items c.go_securing-collector_report.new.self.calls.items c.go_securing-collector_report.ensures.secured)

pub returns-in-Securing-clause-counted : goal.returns-in-Securing-clause-counted
returns-in-Securing-clause-counted g c =
    counted_at c.args.self.now.census c.go_securing-collector_report-in-Securing.new.self.census c.go_securing-collector_report-in-Securing.new.self.nodes c.go_securing-collector_report-in-Securing.new.self.nodes c.go_securing-collector_report-in-Securing.new.self.machines.items c.go_securing-collector_report-in-Securing.new.self.machines.items c.go_securing-collector_report-in-Securing.ensures.census refl refl
    (counted_secured g.P.Payload.same_as g.P.Payload.always_copies c.args.self.now.nodes c.args.self.now.machines.items c.args.self.now.calls.items c.requires.intact c.args.self.now.census c.requires.counted c.args.who c.in-Securing.field-0 (sym (ap (λ e. slice_get e.calls.items c.args.who) c.self.view_is) ∙ slice_get_read _ _ c.args.who c.index.result.now refl (subst (λ (n : ℕ). c.args.who < n) (sym (ap (λ e. length e.calls.items) c.self.view_is)) (subst (λ (n : ℕ). c.args.who < n) (ap (λ s. length s.nodes.collector.table) c.self.view_is ∙ c.requires.intact.table) (c.is_registered.ensures.inside c.if-not-is_registered.false))) c.index.ensures ∙ ap Some c.in-Securing.is)
    c.go_securing-collector_report-in-Securing.result c.go_securing-collector_report-in-Securing.new.self.nodes c.go_securing-collector_report-in-Securing.new.self.machines.items c.go_securing-collector_report-in-Securing.new.self.calls.items c.go_securing-collector_report-in-Securing.ensures.secured)

pub returns-in-Collecting-clause-charged : goal.returns-in-Collecting-clause-charged
returns-in-Collecting-clause-charged g c = c.go_collecting-collector_report.ensures.collected.charged

pub returns-in-Reserving-clause-charged : goal.returns-in-Reserving-clause-charged
returns-in-Reserving-clause-charged g c = c.go_securing-collector_report.ensures.secured.collected.charged

pub returns-in-Securing-clause-charged : goal.returns-in-Securing-clause-charged
returns-in-Securing-clause-charged g c = c.go_securing-collector_report-in-Securing.ensures.secured.collected.charged
