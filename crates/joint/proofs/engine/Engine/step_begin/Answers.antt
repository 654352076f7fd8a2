use Rattle.std.proofs.Common.{◌<◌, ℕ, length, refl, sym, ◌∙◌, ap, subst}
use Rattle.std.specs.Prelude.{slice_get}
use Rattle.crossbeam_epoch.specs.world.Machine.{place}
use Rattle.joint.specs.engine.Log.{no_log}
use Rattle.joint.specs.declared.refusal.Refusal.TheVariants.{Unknown}
use Rattle.joint.specs.declared.steps.Event.TheVariants.{Begin}
use Rattle.joint.specs.declared.steps.Outcome.TheVariants.{Refused}
use Rattle.joint.specs.declared.steps.Target.TheVariants.{Collector, Tree, Survey}
use Rattle.joint.specs.nodes.Nodes.{Nodes, IsCharged}
use Rattle.joint.specs.Refusals.{of_fault}
use Rattle.joint.specs.engine.Engine.{is_busy, quiet, kind_of}
use Rattle.joint.proofs.lemmas.calls.CensusSteps.{counted_at, counted_begun}
use Rattle.joint.proofs.lemmas.engine.StepsByEvent.{begin_is_step}
use Rattle.joint.proofs.lemmas.engine.Proceeding.{unknown, busy, idle_call}
use Rattle.joint.proofs.engine.Engine.step_begin.Goals as goal

pub is_busy-requires : goal.is_busy-requires
is_busy-requires g c = subst (λ (n : ℕ). c.args.worker < n) (ap (λ s. length s.nodes.collector.table) c.self.view_is ∙ c.requires.holds.0.table) (c.is_registered.ensures.inside c.if-not-is_registered.false)

pub returns-then-not-is_registered-clause-step : goal.returns-then-not-is_registered-clause-step
returns-then-not-is_registered-clause-step g c =
    begin_is_step g.P.Payload.same_as g.P.Payload.always_copies c.call_laws.ensures (record { forest = c.args.self.now.nodes; machines = c.args.self.now.machines.items; calls = c.args.self.now.calls.items; log = no_log }) (record { forest = c.args.self.now.nodes; machines = c.args.self.now.machines.items; calls = c.args.self.now.calls.items; log = no_log }) c.requires.holds (record { worker = c.args.worker; event = Begin c.args.op }) c.refused.result c.requires.holds.0 c.requires.holds.1 c.args.op c.target-target.result refl c.target-target.ensures
    (unknown g.P.Payload.same_as g.P.Payload.always_copies (record { forest = c.args.self.now.nodes; machines = c.args.self.now.machines.items; calls = c.args.self.now.calls.items; log = no_log }) c.args.worker c.target-target.result c.refused.result (sym (c.is_registered.ensures.value ∙ (ap (λ s. (place s.nodes.collector c.args.worker).registered) c.self.view_is)) ∙ c.if-not-is_registered.true) (c.refused.ensures ∙ ap (λ k. quiet k (Refused Unknown)) c.kind_of.ensures))

pub returns-then-is_busy-clause-step : goal.returns-then-is_busy-clause-step
returns-then-is_busy-clause-step g c =
    begin_is_step g.P.Payload.same_as g.P.Payload.always_copies c.call_laws.ensures (record { forest = c.args.self.now.nodes; machines = c.args.self.now.machines.items; calls = c.args.self.now.calls.items; log = no_log }) (record { forest = c.args.self.now.nodes; machines = c.args.self.now.machines.items; calls = c.args.self.now.calls.items; log = no_log }) c.requires.holds (record { worker = c.args.worker; event = Begin c.args.op }) c.refused-then-is_busy.result c.requires.holds.0 c.requires.holds.1 c.args.op c.target-target.result refl c.target-target.ensures
    (busy g.P.Payload.same_as g.P.Payload.always_copies (record { forest = c.args.self.now.nodes; machines = c.args.self.now.machines.items; calls = c.args.self.now.calls.items; log = no_log }) c.args.worker c.target-target.result c.refused-then-is_busy.result (sym (c.is_registered.ensures.value ∙ (ap (λ s. (place s.nodes.collector c.args.worker).registered) c.self.view_is)) ∙ c.if-not-is_registered.false) (sym c.is_busy.ensures ∙ c.if-is_busy.true) (c.refused-then-is_busy.ensures ∙ ap (λ k. quiet k (Refused c.of_fault.result)) c.kind_of-then-is_busy.ensures ∙ ap (λ f. quiet (kind_of c.target-target.result) (Refused f)) (c.of_fault.ensures ∙ ap of_fault c.interruption.ensures)))

pub begin_on_collector-requires-clause-idle : goal.begin_on_collector-requires-clause-idle
begin_on_collector-requires-clause-idle g c = idle_call (slice_get c.args.self.now.calls.items c.args.worker) c.args.worker c.args.self.now.calls.items (subst (λ (n : ℕ). c.args.worker < n) (ap (λ s. length s.nodes.collector.table) c.self.view_is ∙ c.requires.holds.0.table) (c.is_registered.ensures.inside c.if-not-is_registered.false)) refl (sym c.is_busy.ensures ∙ c.if-is_busy.false)

pub begin_on_tree-requires-clause-idle : goal.begin_on_tree-requires-clause-idle
begin_on_tree-requires-clause-idle g c = idle_call (slice_get c.args.self.now.calls.items c.args.worker) c.args.worker c.args.self.now.calls.items (subst (λ (n : ℕ). c.args.worker < n) (ap (λ s. length s.nodes.collector.table) c.self.view_is ∙ c.requires.holds.0.table) (c.is_registered.ensures.inside c.if-not-is_registered.false)) refl (sym c.is_busy.ensures ∙ c.if-is_busy.false)

pub answer_survey-requires-clause-idle : goal.answer_survey-requires-clause-idle
answer_survey-requires-clause-idle g c = idle_call (slice_get c.args.self.now.calls.items c.args.worker) c.args.worker c.args.self.now.calls.items (subst (λ (n : ℕ). c.args.worker < n) (ap (λ s. length s.nodes.collector.table) c.self.view_is ∙ c.requires.holds.0.table) (c.is_registered.ensures.inside c.if-not-is_registered.false)) refl (sym c.is_busy.ensures ∙ c.if-is_busy.false)

pub returns-in-Collector-clause-step : goal.returns-in-Collector-clause-step
returns-in-Collector-clause-step g c =
    begin_is_step g.P.Payload.same_as g.P.Payload.always_copies c.call_laws.ensures (record { forest = c.args.self.now.nodes; machines = c.args.self.now.machines.items; calls = c.args.self.now.calls.items; log = no_log }) (record { forest = c.begin_on_collector.new.self.nodes; machines = c.begin_on_collector.new.self.machines.items; calls = c.begin_on_collector.new.self.calls.items; log = no_log }) c.requires.holds (record { worker = c.args.worker; event = Begin c.args.op }) c.begin_on_collector.result c.begin_on_collector.ensures.intact c.begin_on_collector.ensures.charged c.args.op (Collector c.in-Collector.op) refl (sym c.in-Collector.is ∙ c.target-target.ensures)
    (c.begin_on_collector.ensures.begun)

pub returns-in-Collector-clause-counted : goal.returns-in-Collector-clause-counted
returns-in-Collector-clause-counted g c =
    counted_at _ _ _ _ _ _ c.begin_on_collector.ensures.census refl refl (counted_begun g.P.Payload.same_as g.P.Payload.always_copies (record { forest = c.args.self.now.nodes; machines = c.args.self.now.machines.items; calls = c.args.self.now.calls.items; log = no_log }) (record { forest = c.begin_on_collector.new.self.nodes; machines = c.begin_on_collector.new.self.machines.items; calls = c.begin_on_collector.new.self.calls.items; log = no_log }) c.args.worker c.requires.holds.0 c.args.self.now.census c.requires.counted (Collector c.in-Collector.op) c.begin_on_collector.result c.begin_on_collector.ensures.begun)

pub returns-in-Tree-clause-step : goal.returns-in-Tree-clause-step
returns-in-Tree-clause-step g c =
    begin_is_step g.P.Payload.same_as g.P.Payload.always_copies c.call_laws.ensures (record { forest = c.args.self.now.nodes; machines = c.args.self.now.machines.items; calls = c.args.self.now.calls.items; log = no_log }) (record { forest = c.begin_on_tree.new.self.nodes; machines = c.begin_on_tree.new.self.machines.items; calls = c.begin_on_tree.new.self.calls.items; log = no_log }) c.requires.holds (record { worker = c.args.worker; event = Begin c.args.op }) c.begin_on_tree.result c.begin_on_tree.ensures.intact (let C : Nodes _ → Type 0 = λ y. IsCharged y in subst C (sym c.begin_on_tree.ensures.nodes) c.requires.holds.1) c.args.op (Tree c.in-Tree.op) refl (sym c.in-Tree.is ∙ c.target-target.ensures)
    (c.begin_on_tree.ensures.begun)

pub returns-in-Tree-clause-counted : goal.returns-in-Tree-clause-counted
returns-in-Tree-clause-counted g c =
    counted_at _ _ _ _ _ _ c.begin_on_tree.ensures.census refl refl (counted_begun g.P.Payload.same_as g.P.Payload.always_copies (record { forest = c.args.self.now.nodes; machines = c.args.self.now.machines.items; calls = c.args.self.now.calls.items; log = no_log }) (record { forest = c.begin_on_tree.new.self.nodes; machines = c.begin_on_tree.new.self.machines.items; calls = c.begin_on_tree.new.self.calls.items; log = no_log }) c.args.worker c.requires.holds.0 c.args.self.now.census c.requires.counted (Tree c.in-Tree.op) c.begin_on_tree.result c.begin_on_tree.ensures.begun)

pub returns-in-Survey-clause-step : goal.returns-in-Survey-clause-step
returns-in-Survey-clause-step g c =
    begin_is_step g.P.Payload.same_as g.P.Payload.always_copies c.call_laws.ensures (record { forest = c.args.self.now.nodes; machines = c.args.self.now.machines.items; calls = c.args.self.now.calls.items; log = no_log }) (record { forest = c.args.self.now.nodes; machines = c.args.self.now.machines.items; calls = c.args.self.now.calls.items; log = no_log }) c.requires.holds (record { worker = c.args.worker; event = Begin c.args.op }) c.answer_survey.result c.requires.holds.0 c.requires.holds.1 c.args.op (Survey c.in-Survey.survey) refl (sym c.in-Survey.is ∙ c.target-target.ensures)
    (c.answer_survey.ensures)
