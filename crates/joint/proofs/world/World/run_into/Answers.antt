use Rattle.std.proofs.Common.{◌≡◌, ◌-◌, ◌+◌, inl, inr, refl, sym, ◌∙◌, length, arith}
use Rattle.std.specs.Vec.{vec_len}
use Rattle.std.specs.Prelude.{vec_capacity}
use Rattle.std.specs.Vec.Iter.{into_iter_items}
use Rattle.joint.proofs.lemmas.calls.RunInto.{fills_end, fills_more, fills_none, fills_split, stops}
use Rattle.joint.proofs.world.World.run_into.Goals as goal
use Rattle.joint.proofs.world.World.run_into.Goals.{in-Some+then-len-capacity, in_default}

pub loop-step-init : goal.loop-step-init
loop-step-init g c = record {
  more = omega arith;
  room = refl;
  fills = fills_none g.P.Payload.same_as g.P.Payload.always_copies _ _ _ _ _ c.into_iter-rest.ensures.rest (omega arith);
}

pub loop-step-preserved : goal.loop-step-preserved
loop-step-preserved g c =
    let i = c.loop-step.invariant in
    record {
      more = omega (arith, i.more, c.push_reserved.ensures.len);
      room = c.push_reserved.ensures.capacity ∙ i.room;
      fills = fills_more g.P.Payload.same_as g.P.Payload.always_copies _ _ _ _ _ _ _ _ _ _ _ _ _ i.fills c.in-Some.ensures.items (omega (arith, i.more, c.push_reserved.ensures.len)) c.push_reserved.ensures.items c.step-report.ensures;
    }

pub returns-clause-done : goal.returns-clause-done
returns-clause-done g c =
    let i = c.loop-step.invariant in
    let all = fills_split g.P.Payload.same_as g.P.Payload.always_copies _ _ _ _ _ _ _ i.fills in
    let done : c.len-2.result - c.len-before.result ≡ vec_len c.loop-step.reports - vec_len c.args.reports.now = omega (arith, c.len-2.ensures, c.len-before.ensures) in
    let split : length c.args.steps.items ≡ c.len-2.result - c.len-before.result + length (into_iter_items c.loop-step.rest) = omega (arith, all, done) in
    elim c.match-next.branch [
      | in-Some+then-len-capacity w ↦ stops _ _ _ (vec_len c.loop-step.reports) (vec_len c.args.reports.now) (vec_capacity c.args.reports.now) split done i.more (omega (arith, i.room, c.loop-step.reports.ok.1)) (inr (omega (arith, i.room, w.if-len-capacity.true, w.len.ensures, w.capacity.ensures)))
      | in_default w ↦ stops _ _ _ (vec_len c.loop-step.reports) (vec_len c.args.reports.now) (vec_capacity c.args.reports.now) split done i.more (omega (arith, i.room, c.loop-step.reports.ok.1)) (inl (sym c.loop-step.rest.rest.ok.0 ∙ w.in_default.ensures.cases.0))
    ]

pub returns-clause-run : goal.returns-clause-run
returns-clause-run g c = fills_end g.P.Payload.same_as g.P.Payload.always_copies _ _ _ _ _ _ _ _ c.loop-step.invariant.fills (omega (arith, c.len-2.ensures, c.len-before.ensures))
