use Rattle.std.proofs.Common.{IsSome, sym, ap, subst, ◌∙◌}
use Rattle.joint.specs.nodes.Nodes.{nodes}
use Rattle.joint.specs.calls.MapCalls.{asked_of, reply_of}
use Rattle.joint.specs.engine.Standing.{pairs_of}
use Rattle.joint.proofs.lemmas.calls.Replied.{answers_as, one_stands, replied_keeps, map_stands}
use Rattle.joint.proofs.world.World.reply.Goals as goal

pub returns-clause-answers : goal.returns-clause-answers
returns-clause-answers g c =
    let s = c.args.self.now in
    let s' = c.call.new.self in
    let h = c.sound.ensures.holds in
    answers_as g.P.Payload.same_as c.reply.result (asked_of c.args.op) (pairs_of s) (pairs_of s') (λ e r asked told.
    let x = c.call.ensures.answers h.2.flights (pairs_of s) (map_stands (nodes s.forest)) h.2.in_flight e r asked (ap reply_of c.in_ok-report.was ∙ sym c.reply.ensures ∙ told) in
    (x.0, sym (one_stands (nodes s'.forest) _ x.1.0)))

pub returns-clause-flights : goal.returns-clause-flights
returns-clause-flights g c fs fl some =
    let s = c.args.self.now in
    replied_keeps g.P.Payload.same_as fs (pairs_of s) c.call.new.self _ c.args.op c.in_ok-report.report (subst IsSome c.reply.ensures some) (c.in_ok-report.ensures.map fs (pairs_of s) (map_stands (nodes s.forest)) fl)
