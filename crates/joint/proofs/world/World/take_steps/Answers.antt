use Rattle.std.proofs.Common.{◌-◌, arith, subst}
use Rattle.joint.specs.declared.steps.Step.{Step}
use Rattle.joint.specs.world.World.{IsStep}
use Rattle.joint.proofs.lemmas.calls.Calling.{calling_end, calling_first, calling_more, calling_none}
use Rattle.joint.proofs.world.World.take_steps.Goals as goal

pub returns-then-most-eq0 : goal.returns-then-most-eq0
returns-then-most-eq0 g c = calling_none g.P.Payload.same_as g.P.Payload.always_copies _ _ _ _ _ (omega arith)

pub returns-then-is_last : goal.returns-then-is_last
returns-then-is_last g c =
    calling_end g.P.Payload.same_as g.P.Payload.always_copies _ _ _ _ _ _ _ _ _ (calling_first g.P.Payload.same_as g.P.Payload.always_copies _ _ _ _ _ (c.args.most - 1) _ _ _ _ c.begin-report.ensures (omega arith) c.put_found.ensures.report c.put_found.ensures.found)
    (c.is_last.ensures.stops c.if-is_last.true)

pub loop-left-init : goal.loop-left-init
loop-left-init g c = record {
  report = c.put_found.new.report;
  calling = calling_first g.P.Payload.same_as g.P.Payload.always_copies _ _ _ _ _ _ _ _ _ _ c.begin-report.ensures (omega arith) c.put_found.ensures.report c.put_found.ensures.found;
  goes = c.is_last.ensures.goes c.if-is_last.false;
  more = c.is_last.ensures.more c.if-is_last.false;
}

pub returns-then-is_last-2 : goal.returns-then-is_last-2
returns-then-is_last-2 g c =
    let P : Step g.row.P.Denot → Type 0 = λ s. IsStep g.P.Payload.same_as g.P.Payload.always_copies c.loop-left.self s c.go-report.result c.go-report.new.self in
    calling_end g.P.Payload.same_as g.P.Payload.always_copies _ _ _ _ _ _ _ _ _ (calling_more g.P.Payload.same_as g.P.Payload.always_copies _ _ _ _ _ _ _ (c.loop-left.left - 1) _ _ _ _ _ _ c.loop-left.invariant.calling c.loop-left.invariant.goes (subst P (c.quiet_noise.ensures c.args.who) c.go-report.ensures) (omega arith) c.put_found-in-loop-left.ensures.report c.put_found-in-loop-left.ensures.found)
    (c.is_last-in-loop-left.ensures.stops c.if-is_last-2.true)

pub loop-left-preserved : goal.loop-left-preserved
loop-left-preserved g c =
    let P : Step g.row.P.Denot → Type 0 = λ s. IsStep g.P.Payload.same_as g.P.Payload.always_copies c.loop-left.self s c.go-report.result c.go-report.new.self in
    record {
      report = c.put_found-in-loop-left.new.report;
      calling = calling_more g.P.Payload.same_as g.P.Payload.always_copies _ _ _ _ _ _ _ _ _ _ _ _ _ _ c.loop-left.invariant.calling c.loop-left.invariant.goes (subst P (c.quiet_noise.ensures c.args.who) c.go-report.ensures) (omega arith) c.put_found-in-loop-left.ensures.report c.put_found-in-loop-left.ensures.found;
      goes = c.is_last-in-loop-left.ensures.goes c.if-is_last-2.false;
      more = c.is_last-in-loop-left.ensures.more c.if-is_last-2.false;
    }
