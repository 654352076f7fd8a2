use Rattle.std.proofs.Common.{◌≡◌, false, refl, sym, ◌∙◌, ap, subst}
use Rattle.std.specs.Prelude.{◌&&◌, slice_get}
use Rattle.joint.specs.declared.steps.Event.TheVariants.{Go}
use Rattle.joint.specs.engine.Intact.{is_reserving}
use Rattle.joint.specs.engine.Journaling.{entry_of, reply_by}
use Rattle.joint.specs.engine.Log.{is_full, no_log, request_at}
use Rattle.joint.specs.world.World.{IsStep}
use Rattle.joint.specs.engine.Engine.{World}
use Rattle.joint.proofs.lemmas.calls.WorldSteps.{go_step, kept_by, recounted_same, room_by, went_by}
use Rattle.joint.proofs.lemmas.world.Logged.{raises}
use Rattle.joint.proofs.world.World.go_journaled.Goals as goal

pub recount-requires : goal.recount-requires
recount-requires g c b a =
    let G : World g.row.P.Denot → Type 0 = λ s. (is_reserving (slice_get s.calls c.args.worker) && is_full s.log) ≡ false in
    let given = subst G (sym c.self.view_is) c.requires in
    ap is_full c.take_answer.ensures.left
    ∙ raises g.P.Payload.same_as g.P.Payload.always_copies (record { forest = c.self.inside.engine.nodes; machines = c.self.inside.engine.machines.items; calls = c.self.inside.engine.calls.items; log = c.self.inside.log }) (record { forest = c.step_on-told.new.self.nodes; machines = c.step_on-told.new.self.machines.items; calls = c.step_on-told.new.self.calls.items; log = no_log }) (record { worker = c.args.worker; event = Go c.args.noise }) c.step_on-told.result c.self.invariant.0 c.step_on-told.ensures.step given (sym c.has_place-before.ensures ∙ b) (sym c.has_place-after.ensures ∙ a)

pub invariant_of-self : goal.invariant_of-self
invariant_of-self g c =
    let G : World g.row.P.Denot → Type 0 = λ s. (is_reserving (slice_get s.calls c.args.worker) && is_full s.log) ≡ false in
    let given = subst G (sym c.self.view_is) c.requires in
    let counts = recounted_same g.P.Payload.same_as g.P.Payload.always_copies c.self.inside.log.places c.has_place-before.result c.has_place-after.result _ _ c.self.inside.log.reserved c.has_place-before.ensures c.has_place-after.ensures in
    let room = room_by g.P.Payload.same_as g.P.Payload.always_copies c.self.inside.log c.take_answer.new.log c.recount.new.self c.args.worker (request_at c.take_answer.new.log.requests c.args.worker) c.has_place-before.result c.has_place-after.result _ _ c.take_answer.ensures.left c.recount.ensures counts in (
      (go_step g.P.Payload.same_as g.P.Payload.always_copies (record { forest = c.self.inside.engine.nodes; machines = c.self.inside.engine.machines.items; calls = c.self.inside.engine.calls.items; log = c.self.inside.log }) (record { forest = c.step_on-told.new.self.nodes; machines = c.step_on-told.new.self.machines.items; calls = c.step_on-told.new.self.calls.items; log = c.put_request_if.new.self }) c.args.worker c.args.noise (request_at c.take_answer.new.log.requests c.args.worker) c.keep.ensures.0 c.step_on-told.result (record c.step_on-told.result { kept = c.keep.result }) c.self.invariant.0 c.step_on-told.ensures.step given
          c.take_answer.ensures.answered
          (went_by g.P.Payload.same_as g.P.Payload.always_copies c.self.inside.log c.take_answer.new.log c.recount.new.self c.keep.new.log c.put_request_if.new.self c.args.worker c.has_place-before.result c.has_place-after.result _ _ c.step_on-told.result.decided c.keep.ensures.0 c.is_in_flight.result _ (request_at c.take_answer.new.log.requests c.args.worker)
          c.take_answer.ensures.left c.recount.ensures counts c.keep.ensures.1.1.1 c.put_request_if.ensures c.is_in_flight.ensures)
          (λ a d r. c.keep.ensures.1.0 a d (room ∙ r) ∙ ap (λ l. entry_of c.args.worker (request_at l.requests c.args.worker) (reply_by c.step_on-told.result.outcome (slice_get c.step_on-told.new.self.machines.items c.args.worker))) c.recount.ensures)
          (kept_by g.P.Payload.same_as g.P.Payload.always_copies c.self.inside.log c.take_answer.new.log c.recount.new.self c.args.worker (request_at c.take_answer.new.log.requests c.args.worker) c.has_place-before.result c.has_place-after.result _ _ c.step_on-told.result.decided c.keep.result c.keep.ensures.0 c.step_on-told.result (record c.step_on-told.result { kept = c.keep.result })
          c.take_answer.ensures.left c.recount.ensures counts c.keep.ensures.1.1.0 refl)).holds,
      c.step_on-told.ensures.counted,
    )

pub returns : goal.returns
returns g c =
    let G : World g.row.P.Denot → Type 0 = λ s. (is_reserving (slice_get s.calls c.args.worker) && is_full s.log) ≡ false in
    let given = subst G (sym c.self.view_is) c.requires in
    let counts = recounted_same g.P.Payload.same_as g.P.Payload.always_copies c.self.inside.log.places c.has_place-before.result c.has_place-after.result _ _ c.self.inside.log.reserved c.has_place-before.ensures c.has_place-after.ensures in
    let room = room_by g.P.Payload.same_as g.P.Payload.always_copies c.self.inside.log c.take_answer.new.log c.recount.new.self c.args.worker (request_at c.take_answer.new.log.requests c.args.worker) c.has_place-before.result c.has_place-after.result _ _ c.take_answer.ensures.left c.recount.ensures counts in
    let P : World g.row.P.Denot → Type 0 = λ s. IsStep g.P.Payload.same_as g.P.Payload.always_copies s (record { worker = c.args.worker; event = Go c.args.noise }) (record c.step_on-told.result { kept = c.keep.result }) (record { forest = c.step_on-told.new.self.nodes; machines = c.step_on-told.new.self.machines.items; calls = c.step_on-told.new.self.calls.items; log = c.put_request_if.new.self }) in
    subst P c.self.view_is (go_step g.P.Payload.same_as g.P.Payload.always_copies (record { forest = c.self.inside.engine.nodes; machines = c.self.inside.engine.machines.items; calls = c.self.inside.engine.calls.items; log = c.self.inside.log }) (record { forest = c.step_on-told.new.self.nodes; machines = c.step_on-told.new.self.machines.items; calls = c.step_on-told.new.self.calls.items; log = c.put_request_if.new.self }) c.args.worker c.args.noise (request_at c.take_answer.new.log.requests c.args.worker) c.keep.ensures.0 c.step_on-told.result (record c.step_on-told.result { kept = c.keep.result }) c.self.invariant.0 c.step_on-told.ensures.step given
    c.take_answer.ensures.answered
    (went_by g.P.Payload.same_as g.P.Payload.always_copies c.self.inside.log c.take_answer.new.log c.recount.new.self c.keep.new.log c.put_request_if.new.self c.args.worker c.has_place-before.result c.has_place-after.result _ _ c.step_on-told.result.decided c.keep.ensures.0 c.is_in_flight.result _ (request_at c.take_answer.new.log.requests c.args.worker)
    c.take_answer.ensures.left c.recount.ensures counts c.keep.ensures.1.1.1 c.put_request_if.ensures c.is_in_flight.ensures)
    (λ a d r. c.keep.ensures.1.0 a d (room ∙ r) ∙ ap (λ l. entry_of c.args.worker (request_at l.requests c.args.worker) (reply_by c.step_on-told.result.outcome (slice_get c.step_on-told.new.self.machines.items c.args.worker))) c.recount.ensures)
    (kept_by g.P.Payload.same_as g.P.Payload.always_copies c.self.inside.log c.take_answer.new.log c.recount.new.self c.args.worker (request_at c.take_answer.new.log.requests c.args.worker) c.has_place-before.result c.has_place-after.result _ _ c.step_on-told.result.decided c.keep.result c.keep.ensures.0 c.step_on-told.result (record c.step_on-told.result { kept = c.keep.result })
    c.take_answer.ensures.left c.recount.ensures counts c.keep.ensures.1.1.0 refl))
