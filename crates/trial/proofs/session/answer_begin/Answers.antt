use Rattle.std.proofs.Common.{◌≡◌, ◌≢◌, ◌∙◌, refl, sym, subst, List, Option, None, Some}
use Rattle.judge.specs.declared.journal.Reply.TheVariants as told
use Rattle.joint.specs.declared.steps.Done.TheVariants as done
use Rattle.joint.specs.declared.steps.Op.{Op}
use Rattle.joint.specs.declared.steps.Outcome.{Outcome}
use Rattle.joint.specs.declared.steps.Outcome.TheVariants as outcome
use Rattle.std.specs.Prelude.{ℕ}
use Rattle.trial.specs.declared.caller.Closure.{Closure}
use Rattle.trial.specs.declared.reply.Reply.{Reply}
use Rattle.trial.specs.declared.reply.Reply.TheVariants as reply
use Rattle.trial.specs.Calling.{Begins}
use Rattle.trial.specs.Replies.{reply_of, begun_of}
use Rattle.trial.specs.Session.{closure_of}
use Rattle.trial.proofs.session.answer_begin.Goals as goal

-- a call that is replied to as in flight is begun
is_begun : (ps : List (ℕ × ℕ)) (o : Outcome ℕ) → reply_of ps o ≡ reply.Running → reply.Begun ≡ begun_of ps o
is_begun ps outcome.Running e = refl
is_begun ps (outcome.Asks found) e = refl
is_begun ps (outcome.Found place key value) e = refl
is_begun ps (outcome.Registered who) e = cc
is_begun ps (outcome.Done done.Unit) e = cc
is_begun ps (outcome.Done (done.Reply (told.Get found))) e = cc
is_begun ps (outcome.Done (done.Reply (told.Insert found))) e = cc
is_begun ps (outcome.Done (done.Reply (told.Remove found))) e = cc
is_begun ps (outcome.Done (done.Reply (told.ComputePresent None))) e = cc
is_begun ps (outcome.Done (done.Reply (told.ComputePresent (Some pair)))) e = cc
is_begun ps (outcome.Done (done.Reply (told.ComputeInsert found))) e = cc
is_begun ps (outcome.Done (done.Reply (told.Exchange exchanged))) e = cc
is_begun ps (outcome.Done (done.Scanned count)) e = cc
is_begun ps (outcome.Done (done.Keys keys)) e = cc
is_begun ps (outcome.Done (done.Empty b)) e = cc
is_begun ps (outcome.Done (done.Stats stats)) e = cc
is_begun ps (outcome.Refused refusal) e = cc

-- and any other is replied to as ever
as_ever : (ps : List (ℕ × ℕ)) (o : Outcome ℕ) (r : Reply) → r ≡ reply_of ps o → r ≢ reply.Running → r ≡ begun_of ps o
as_ever ps outcome.Running r e n = absurd (n e)
as_ever ps (outcome.Asks found) r e n = absurd (n e)
as_ever ps (outcome.Found place key value) r e n = absurd (n e)
as_ever ps (outcome.Registered who) r e n = e
as_ever ps (outcome.Done d) r e n = e
as_ever ps (outcome.Refused refusal) r e n = e

pub returns-in-Running : goal.returns-in-Running
returns-in-Running c =
    let stands = c.begin-outcome.result in
    let P : Option Closure → Type 0 = λ f. Begins c.args.index.now c.args.worker c.asked-op.result.0 f stands c.begin-outcome.new.self in
    let Q : Op ℕ → Type 0 = λ o. Begins c.args.index.now c.args.worker o (closure_of c.args.call) stands c.begin-outcome.new.self in
    let told = c.reply.ensures in
    (stands, c.begin-outcome.new.self, subst Q c.asked-op.ensures.op (subst P c.asked-op.ensures.closure c.begin-outcome.ensures), (told.0, is_begun _ stands (sym told.1 ∙ c.in-Running.is)))

pub returns-in_default : goal.returns-in_default
returns-in_default c =
    let stands = c.begin-outcome.result in
    let P : Option Closure → Type 0 = λ f. Begins c.args.index.now c.args.worker c.asked-op.result.0 f stands c.begin-outcome.new.self in
    let Q : Op ℕ → Type 0 = λ o. Begins c.args.index.now c.args.worker o (closure_of c.args.call) stands c.begin-outcome.new.self in
    let told = c.reply.ensures in
    (stands, c.begin-outcome.new.self, subst Q c.asked-op.ensures.op (subst P c.asked-op.ensures.closure c.begin-outcome.ensures), (told.0, as_ever _ stands _ told.1 c.in_default.not-Running))
