use Rattle.std.proofs.Common.{true, sym, ◌∙◌, ap}
use Rattle.joint.specs.engine.Log.{answered_if, request_at}
use Rattle.joint.proofs.lemmas.calls.WorldSteps.{answer_put, answer_left, answer_taken}
use Rattle.joint.proofs.world.step.take_answer.Goals as goal

pub returns-then-asks-clause-answered : goal.returns-then-asks-clause-answered
returns-then-asks-clause-answered g c = λ a.
    answer_taken g.P.Payload.same_as g.P.Payload.always_copies c.args.log.now c.put_request.new.self c.args.who c.args.answer.now c.with_answer.result (answer_put g.P.Payload.same_as g.P.Payload.always_copies c.args.log.now c.put_request-request.new.self c.put_request.new.self c.args.who c.with_answer.result c.put_request-request.ensures.after c.put_request.ensures.after)
    (c.with_answer.ensures a ∙ ap (answered_if true c.args.answer.now) c.put_request-request.ensures.before)
    ∙ ap (λ b. answered_if b c.args.answer.now (request_at c.args.log.now.requests c.args.who)) (sym c.if-asks.true ∙ c.asks.ensures)

pub returns-then-asks-clause-left : goal.returns-then-asks-clause-left
returns-then-asks-clause-left g c = answer_left g.P.Payload.same_as g.P.Payload.always_copies c.args.log.now c.put_request.new.self c.args.who c.with_answer.result (answer_put g.P.Payload.same_as g.P.Payload.always_copies c.args.log.now c.put_request-request.new.self c.put_request.new.self c.args.who c.with_answer.result c.put_request-request.ensures.after c.put_request.ensures.after)
