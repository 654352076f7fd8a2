use Rattle.std.proofs.Common.{rules, sym, ap, subst, ◌≡◌, ◌∙◌}
use Rattle.std.specs.Prelude.{IfErr}
use Rattle.joint.specs.threads.Threads.{is_held_by, computed}
use Rattle.joint.proofs.lemmas.threads.WritingEnds.{serves_done, present_refused}
use Rattle.joint.proofs.threads.journaled.Journaled.compute_if_present.Goals as goal

pub returns-clause-refused : goal.returns-clause-refused
returns-clause-refused g c =
    let done = c.write-end.ensures in
    let Same = λ (e : _). c.write-end.new.share ≡ c.args.share.now in
    let none = present_refused g.W.Watch.watched c.args.worker.now.number done.1 c.args.share.now c.write-end.new.share _ done.0 done.4 in
    subst (λ r. IfErr r Same) (sym (c.computed.ensures ∙ ap computed done.5)) none

pub write-end-requires-clause-ready : goal.write-end-requires-clause-ready
write-end-requires-clause-ready g c = rw c.new-answers.ensures c.requires

pub returns-clause-answers : goal.returns-clause-answers
returns-clause-answers g c =
    let done = rw (c.new-answers.ensures, c.to_word.ensures.number) at c.write-end.ensures in
    serves_done (is_held_by c.args.self.now.tree.id c.args.worker.now c.args.guard.now) _ c.computed.result (search rules) (done.0, done.1, done.2, done.3, done.4, c.computed.ensures ∙ ap computed done.5)
