use Rattle.std.proofs.Common.{◌≡◌, true, false, sym, ◌∙◌, ap, subst}
use Rattle.std.specs.Prelude.{◌&&◌, None, slice_get, slice_set}
use Rattle.joint.specs.declared.engine.in_flight.InFlight.TheVariants.{Idle}
use Rattle.joint.specs.declared.steps.Event.TheVariants.{Go}
use Rattle.joint.specs.nodes.Nodes.{Nodes, IsCharged}
use Rattle.joint.specs.engine.Intact.{is_reserving}
use Rattle.joint.specs.engine.Log.{is_full}
use Rattle.joint.specs.world.World.{IsStep}
use Rattle.joint.specs.engine.Engine.{World}
use Rattle.joint.proofs.lemmas.calls.WorldSteps.{and_left, and_right, tell_full_step}
use Rattle.joint.proofs.lemmas.calls.CensusSteps.{counted_at}
use Rattle.joint.proofs.world.World.tell_journal_full.Goals as goal

pub invariant_of-self : goal.invariant_of-self
invariant_of-self g c =
    let G : World g.row.P.Denot → Type 0 = λ s. (is_reserving (slice_get s.calls c.args.who) && is_full s.log) ≡ true in
    let given = subst G (sym c.self.view_is) c.requires in
    let left = and_left g.P.Payload.same_as g.P.Payload.always_copies _ _ given in
    let right = and_right g.P.Payload.same_as g.P.Payload.always_copies _ _ given in
    let C : Nodes g.row.P.Denot → Type 0 = λ y. IsCharged y in (
      (tell_full_step g.P.Payload.same_as g.P.Payload.always_copies (record { forest = c.self.inside.engine.nodes; machines = c.self.inside.engine.machines.items; calls = c.self.inside.engine.calls.items; log = c.self.inside.log }) (record { forest = c.abandon.new.self.nodes; machines = c.abandon.new.self.machines.items; calls = c.abandon.new.self.calls.items; log = c.put_request.new.self }) c.args.who (record { fail = false; seen = None; answer = None }) c.refused.result c.self.invariant.0 left right
          (c.abandon.ensures.intact, subst C (sym c.abandon.ensures.nodes) c.self.invariant.0.1)
          (ap (λ y. record { forest = y; machines = c.abandon.new.self.machines.items; calls = c.abandon.new.self.calls.items; log = c.put_request.new.self }) c.abandon.ensures.nodes
          ∙ ap (λ v. record { forest = c.self.inside.engine.nodes; machines = v.items; calls = c.abandon.new.self.calls.items; log = c.put_request.new.self }) c.abandon.ensures.machines
          ∙ ap (λ y. record { forest = c.self.inside.engine.nodes; machines = c.self.inside.engine.machines.items; calls = y; log = c.put_request.new.self }) c.abandon.ensures.calls
          ∙ ap (λ y. record { forest = c.self.inside.engine.nodes; machines = c.self.inside.engine.machines.items; calls = slice_set c.self.inside.engine.calls.items c.args.who Idle; log = y }) c.put_request.ensures.after)
          c.refused.ensures).holds,
      counted_at _ _ _ _ _ _ c.abandon.ensures.census c.abandon.ensures.nodes (ap (λ v. v.items) c.abandon.ensures.machines) c.self.invariant.1,
    )

pub returns : goal.returns
returns g c noise =
    let G : World g.row.P.Denot → Type 0 = λ s. (is_reserving (slice_get s.calls c.args.who) && is_full s.log) ≡ true in
    let given = subst G (sym c.self.view_is) c.requires in
    let left = and_left g.P.Payload.same_as g.P.Payload.always_copies _ _ given in
    let right = and_right g.P.Payload.same_as g.P.Payload.always_copies _ _ given in
    let C : Nodes g.row.P.Denot → Type 0 = λ y. IsCharged y in
    let P : World g.row.P.Denot → Type 0 = λ s. IsStep g.P.Payload.same_as g.P.Payload.always_copies s (record { worker = c.args.who; event = Go noise }) c.refused.result (record { forest = c.abandon.new.self.nodes; machines = c.abandon.new.self.machines.items; calls = c.abandon.new.self.calls.items; log = c.put_request.new.self }) in
    subst P c.self.view_is (tell_full_step g.P.Payload.same_as g.P.Payload.always_copies (record { forest = c.self.inside.engine.nodes; machines = c.self.inside.engine.machines.items; calls = c.self.inside.engine.calls.items; log = c.self.inside.log }) (record { forest = c.abandon.new.self.nodes; machines = c.abandon.new.self.machines.items; calls = c.abandon.new.self.calls.items; log = c.put_request.new.self }) c.args.who noise c.refused.result c.self.invariant.0 left right
    (c.abandon.ensures.intact, subst C (sym c.abandon.ensures.nodes) c.self.invariant.0.1)
    (ap (λ y. record { forest = y; machines = c.abandon.new.self.machines.items; calls = c.abandon.new.self.calls.items; log = c.put_request.new.self }) c.abandon.ensures.nodes
    ∙ ap (λ v. record { forest = c.self.inside.engine.nodes; machines = v.items; calls = c.abandon.new.self.calls.items; log = c.put_request.new.self }) c.abandon.ensures.machines
    ∙ ap (λ y. record { forest = c.self.inside.engine.nodes; machines = c.self.inside.engine.machines.items; calls = y; log = c.put_request.new.self }) c.abandon.ensures.calls
    ∙ ap (λ y. record { forest = c.self.inside.engine.nodes; machines = c.self.inside.engine.machines.items; calls = slice_set c.self.inside.engine.calls.items c.args.who Idle; log = y }) c.put_request.ensures.after)
    c.refused.ensures)

pub abandon-requires-clause-on : goal.abandon-requires-clause-on
abandon-requires-clause-on g c =
    let G : World g.row.P.Denot → Type 0 = λ s. (is_reserving (slice_get s.calls c.args.who) && is_full s.log) ≡ true in
    and_left g.P.Payload.same_as g.P.Payload.always_copies _ _ (subst G (sym c.self.view_is) c.requires)
