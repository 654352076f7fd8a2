use Rattle.std.proofs.Common.{◌≡◌, length, sym, ap, subst, ◌∙◌}
use Rattle.std.specs.Prelude.{slice_get}
use Rattle.joint.specs.threads.Writing.{Appended}
use Rattle.joint.proofs.lemmas.threads.Appending.{appended_at, steps_on}
use Rattle.joint.proofs.threads.journaled_world.step_on.Goals as goal

pub returns-clause-appended : goal.returns-clause-appended
returns-clause-appended g c =
    let before = c.args.world.now.log.entries in
    let after = c.step-report.new.self.log.entries in
    let done = steps_on c.args.world.now c.step-report.new.self c.args.step c.args.op.now c.args.given c.step-report.result c.sound.ensures.holds c.step-report.ensures c.requires in
    let at : slice_get after (length before) ≡ done.0 = appended_at before after done.0 done.1.entries in
    let journal = ap (λ es. slice_get es (length c.journal-before.result.now)) c.journal.ensures.entries ∙ ap (λ es. slice_get after (length es)) c.journal-before.ensures.entries in
    let same : c.entry_at-entry.result ≡ done.0 = c.entry_at-entry.ensures ∙ journal ∙ at in
    subst (Appended c.args.world.now c.step-report.new.self c.args.step.worker c.args.op.now c.args.given c.args.step.event) (sym same) done.1
