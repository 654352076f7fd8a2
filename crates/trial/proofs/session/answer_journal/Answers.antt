use Rattle.std.proofs.Common.{◌≡◌, ◌∙◌, nat_eq, ap, sym, subst, List, length, inl, inr, refl}
use Rattle.judge.specs.declared.checker.Verdict.TheVariants as verdict
use Rattle.judge.specs.declared.journal.Entry.{Entry}
use Rattle.judge.specs.Journal.{IsLegal}
use Rattle.std.specs.Prelude.{ℕ}
use Rattle.trial.specs.declared.reply.Reply.TheVariants as reply
use Rattle.trial.proofs.session.answer_journal.Goals as goal

pub returns-in-Ok : goal.returns-in-Ok
returns-in-Ok c =
    let kept = c.journal-journal.ensures in
    let legal : c.in-Ok.verdict ≡ verdict.Legal = c.in-Ok.ensures.legal.1 kept.legal in
    let told = ap (λ (es : List (Entry ℕ)). reply.Journal (length es) c.in-Ok.verdict) kept.entries ∙ ap (reply.Journal (length c.args.index.now.world.log.entries)) legal in
    let P : List (Entry ℕ) → Type 0 = λ es. IsLegal nat_eq es in
    record { legal = subst P kept.entries kept.legal; none = λ e. sym kept.entries ∙ kept.none e; reply = inl told }

pub returns-in-Err : goal.returns-in-Err
returns-in-Err c =
    let kept = c.journal-journal.ensures in
    let P : List (Entry ℕ) → Type 0 = λ es. IsLegal nat_eq es in
    record { legal = subst P kept.entries kept.legal; none = λ e. sym kept.entries ∙ kept.none e; reply = inr refl }
