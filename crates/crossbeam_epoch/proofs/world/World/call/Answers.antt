use Rattle.std.proofs.Common.{arith, ◌+◌}
use Rattle.crossbeam_epoch.proofs.lemmas.world.Whole.{going_more, call_ends, call_stops}
use Rattle.crossbeam_epoch.proofs.lemmas.world.Extends.{leads_on}
use Rattle.crossbeam_epoch.proofs.lemmas.world.WaitFree.{call_over}
use Rattle.crossbeam_epoch.proofs.world.World.call.Goals as goal

pub returns-in_default : goal.returns-in_default
returns-in_default g c =
    let r = call_ends c.args.self.now c.args.who c.args.op c.loop.counter c.args.most c.loop.newest c.loop.event c.loop.self c.step-report.new.self c.step-report.result c.loop-test.true c.loop.invariant c.step-report.ensures.report c.step-report.ensures.state c.in_default.not-Running in
    record { call = (r.0, r.1, leads_on g.T.Links.names c.args.self.now _ c.args.who c.args.op c.args.most r.0 _ r.1); ends = λ o le. call_over c.args.self.now c.args.who c.args.op c.args.most r.0 _ _ o r.1 le }

pub loop-preserved : goal.loop-preserved
loop-preserved g c =
    going_more c.args.self.now c.args.who c.args.op c.loop.counter (c.loop.counter + 1) c.loop.newest c.loop.event c.loop.self c.step-report.new.self c.step-report.result c.loop.invariant c.step-report.ensures.report c.step-report.ensures.state c.in-Running.is (omega arith)

pub returns : goal.returns
returns g c =
    let r = call_stops c.args.self.now c.args.who c.args.op c.loop.counter c.args.most c.loop.newest c.loop.event c.loop.self (omega (arith, c.loop.auto.counter-end, c.loop-test.false)) c.loop.invariant in
    record { call = (r.0, r.1, leads_on g.T.Links.names c.args.self.now _ c.args.who c.args.op c.args.most r.0 _ r.1); ends = λ o le. call_over c.args.self.now c.args.who c.args.op c.args.most r.0 _ _ o r.1 le }
