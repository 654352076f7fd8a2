use Rattle.std.proofs.Common.{◌≡◌, ◌∙◌, refl, ap, subst, sym, Some}
use Rattle.std.specs.Prelude.{length}
use Rattle.joint.specs.nodes.Listing.{bytes_of}
use Rattle.joint.specs.engine.Census.{waiting_nodes}
use Rattle.std.specs.List.{sum_by}
use Rattle.trial.specs.declared.command.Command.{Command}
use Rattle.trial.specs.declared.open_tree.OpenTree.{OpenTree}
use Rattle.trial.specs.declared.reply.Reply.{Reply}
use Rattle.trial.specs.declared.reply.Reply.TheVariants as reply
use Rattle.trial.specs.Session.{Session, Answers, CallReplies, GoReplies, FailReplies, Rounds, op_of, closure_of}
use Rattle.trial.proofs.Filling.{if_ok}
use Rattle.trial.proofs.session.answer.Goals as goal

-- a command that is this one, of a session whose tree is this
as_this : (s : Session) (c d : Command) (old new : OpenTree) (r : Reply) → s ≡ Some old → c ≡ d → Answers (Some old) d (Some new) r → Answers s c (Some new) r
as_this s c d old new r i e h =
    let P : Session → Type 0 = λ x. Answers x c (Some new) r in
    let Q : Command → Type 0 = λ x. Answers (Some old) x (Some new) r in
    subst P (sym i) (subst Q (sym e) h)

pub returns-in-Register-clause-ok : goal.returns-in-Register-clause-ok
returns-in-Register-clause-ok c = as_this _ _ _ _ _ _ c.in-Some.is c.in-Register.is (c.answer_register.new.index, refl, c.answer_register.ensures)

pub returns-in-Charged-clause-ok : goal.returns-in-Charged-clause-ok
returns-in-Charged-clause-ok c = as_this _ _ _ _ _ _ c.in-Some.is c.in-Charged.is (c.in-Some.index, refl, (refl, ap reply.Charged c.charged.ensures.value))

pub returns-in-Waiting-clause-ok : goal.returns-in-Waiting-clause-ok
returns-in-Waiting-clause-ok c =
    let told : reply.Waiting c.waiting.result c.waiting_bytes.result ≡ reply.Waiting (length (waiting_nodes c.in-Some.index.world)) (sum_by (bytes_of c.in-Some.index.world.forest) (waiting_nodes c.in-Some.index.world))
    = ap (λ n. reply.Waiting n c.waiting_bytes.result) c.waiting.ensures.count ∙ ap (reply.Waiting (length (waiting_nodes c.in-Some.index.world))) c.waiting_bytes.ensures.sum in
    as_this _ _ _ _ _ _ c.in-Some.is c.in-Waiting.is (c.in-Some.index, refl, (refl, told))

pub returns-in-Journal-clause-ok : goal.returns-in-Journal-clause-ok
returns-in-Journal-clause-ok c = as_this _ _ _ _ _ _ c.in-Some.is c.in-Journal.is (c.in-Some.index, refl, (refl, c.answer_journal.ensures))

pub returns-in-Call-clause-ok : goal.returns-in-Call-clause-ok
returns-in-Call-clause-ok c =
    if_ok (λ r. CallReplies (op_of c.in-Call.call) (closure_of c.in-Call.call) c.in-Some.index c.in-Call.worker c.answer_call.new.index r) _ c.answer_call.result
    (λ r h. as_this _ _ _ _ _ r c.in-Some.is c.in-Call.is (c.answer_call.new.index, refl, h)) c.answer_call.ensures.ok

pub returns-in-Begin-clause-ok : goal.returns-in-Begin-clause-ok
returns-in-Begin-clause-ok c = as_this _ _ _ _ _ _ c.in-Some.is c.in-Begin.is (c.answer_begin.new.index, refl, c.answer_begin.ensures)

pub returns-in-Go-clause-ok : goal.returns-in-Go-clause-ok
returns-in-Go-clause-ok c =
    if_ok (λ r. GoReplies c.in-Go.most c.in-Some.index c.in-Go.worker c.answer_go.new.index r) _ c.answer_go.result
    (λ r h. as_this _ _ _ _ _ r c.in-Some.is c.in-Go.is (c.answer_go.new.index, refl, h)) c.answer_go.ensures.ok

pub returns-in-Fail-clause-ok : goal.returns-in-Fail-clause-ok
returns-in-Fail-clause-ok c =
    if_ok (λ r. FailReplies c.in-Some.index c.in-Fail.worker c.answer_fail.new.index r) _ c.answer_fail.result
    (λ r h. as_this _ _ _ _ _ r c.in-Some.is c.in-Fail.is (c.answer_fail.new.index, refl, h)) c.answer_fail.ensures.ok

pub returns-in-Round-clause-ok : goal.returns-in-Round-clause-ok
returns-in-Round-clause-ok c =
    if_ok (λ r. Rounds c.in-Round.count c.in-Some.index c.in-Round.worker c.rounds.new.index r) _ c.rounds.result
    (λ r h. as_this _ _ _ _ _ r c.in-Some.is c.in-Round.is (c.rounds.new.index, refl, h)) c.rounds.ensures.ok
