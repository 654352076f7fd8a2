use Rattle.std.proofs.Common.{length, sym, ◌∙◌, ap}
use Rattle.std.proofs.lemmas.List.{length-replicate}
use Rattle.joint.proofs.lemmas.calls.WorldSteps.{opened_logged}
use Rattle.joint.proofs.world.World.with_places.Goals as goal

pub invariant_of-result : goal.invariant_of-result
invariant_of-result g c =
    let e = c.in_ok-engine.ensures in (
      (
        e.1.0,
        e.1.1,
        opened_logged g.P.Payload.same_as g.P.Payload.always_copies (record { forest = c.in_ok-engine.engine.nodes; machines = c.in_ok-engine.engine.machines.items; calls = c.in_ok-engine.engine.calls.items; log = c.in-Ok.log }) c.args.limits.epoch.participants c.args.places
            (record { alone = e.2.alone; idle = e.2.idle }) c.in-Ok.ensures (sym e.1.0.table ∙ ap (λ s. length s.table) e.0.collector_is ∙ length-replicate _ _) c.requires,
      ),
      e.3,
    )

pub returns-in-Ok-clause-is_new : goal.returns-in-Ok-clause-is_new
returns-in-Ok-clause-is_new g c =
    let e = c.in_ok-engine.ensures in
    record { opened = (_, _, e.0); fresh = record { alone = e.2.alone; idle = e.2.idle } }
