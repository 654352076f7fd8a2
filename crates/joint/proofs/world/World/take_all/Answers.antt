use Rattle.std.proofs.Common.{arith, ◌∙◌}
use Rattle.joint.proofs.lemmas.calls.RunInto.{all_or_none, into_empty}
use Rattle.joint.proofs.world.World.take_all.Goals as goal

pub returns-clause-done : goal.returns-clause-done
returns-clause-done g c = omega (arith, c.run_into-done.ensures.len, c.reserve.ensures.len, c.new-reports.ensures.len)

pub returns-clause-whole : goal.returns-clause-whole
returns-clause-whole g c fewer =
    (all_or_none c.reserve.result _ _ c.len.result _ _ _ c.run_into-done.ensures.done (c.len.ensures ∙ c.args.steps.ok.0) (c.reserve.ensures.len ∙ c.new-reports.ensures.len) c.new-reports.ensures.capacity c.reserve.ensures.ok c.reserve.ensures.err fewer).0

pub returns-clause-full : goal.returns-clause-full
returns-clause-full g c fewer =
    let none = (all_or_none c.reserve.result _ _ c.len.result _ _ _ c.run_into-done.ensures.done (c.len.ensures ∙ c.args.steps.ok.0) (c.reserve.ensures.len ∙ c.new-reports.ensures.len) c.new-reports.ensures.capacity c.reserve.ensures.ok c.reserve.ensures.err fewer).1 in
    omega (arith, c.run_into-done.ensures.room, none)

pub returns-clause-run : goal.returns-clause-run
returns-clause-run g c = into_empty g.P.Payload.same_as g.P.Payload.always_copies _ _ _ _ _ (c.reserve.ensures.items ∙ c.new-reports.ensures.items) c.run_into-done.ensures.run
