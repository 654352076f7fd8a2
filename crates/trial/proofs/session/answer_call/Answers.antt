use Rattle.std.proofs.Common.{subst, Option}
use Rattle.joint.specs.declared.steps.Op.{Op}
use Rattle.std.specs.Prelude.{ℕ}
use Rattle.trial.specs.declared.caller.Closure.{Closure}
use Rattle.trial.specs.Calling.{Calls}
use Rattle.trial.specs.Session.{closure_of}
use Rattle.trial.proofs.session.answer_call.Goals as goal

pub returns-clause-ok : goal.returns-clause-ok
returns-clause-ok c =
    let stands = c.in_ok-outcome.outcome in
    let P : Option Closure → Type 0 = λ f. Calls c.args.index.now c.args.worker c.asked-op.result.0 f stands c.call.new.self in
    let Q : Op ℕ → Type 0 = λ o. Calls c.args.index.now c.args.worker o (closure_of c.args.call) stands c.call.new.self in
    (stands, c.call.new.self, subst Q c.asked-op.ensures.op (subst P c.asked-op.ensures.closure c.in_ok-outcome.ensures.ok), c.reply.ensures)
