use Rattle.std.proofs.Common.{◌≡◌, ◌≤◌, ◌-◌}
use Rattle.std.specs.Prelude.{vec_capacity}
use Rattle.std.specs.Vec.{vec_len}
use Rattle.std.specs.Vec.Iter.{into_iter_items, into_iter_len}
use Rattle.joint.proofs.lemmas.calls.RunInto.{Fills}
use Rattle.joint.proofs.world.World.run_into.Given as goal

abbrev pub invariant-loop-step : goal.invariant-loop-step
invariant-loop-step g l = record {
  more : vec_len l.fn.reports ≤ vec_len l.reports;
  room : vec_capacity l.reports ≡ vec_capacity l.fn.reports;
  fills : Fills g.P.Payload.same_as g.P.Payload.always_copies l.fn.self l.fn.steps.items (into_iter_items l.rest) l.fn.reports.items (vec_len l.reports - vec_len l.fn.reports) l.reports.items l.self;
}

abbrev pub decreases-loop-step : goal.decreases-loop-step
decreases-loop-step g l = into_iter_len l.rest
