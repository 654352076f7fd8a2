use Rattle.std.proofs.Common.{rules, refl, sym, ap, subst, ◌≡◌, ◌∙◌}
use Rattle.std.specs.Prelude.{Err, IfErr}
use Rattle.joint.specs.declared.refusal.Refusal.TheVariants.{Foreign}
use Rattle.joint.specs.threads.Threads.{is_held_by, replaced, words}
use Rattle.joint.proofs.lemmas.threads.WritingEnds.{serves_foreign, serves_done, replace_refused, words_refused}
use Rattle.joint.proofs.threads.journaled.Journaled.compute_or_insert.Goals as goal

pub returns-clause-refused : goal.returns-clause-refused
returns-clause-refused g c =
    let done = c.write-end.ensures in
    let Same = λ (e : _). c.write-end.new.share ≡ c.args.share.now in
    let none = replace_refused g.W.Watch.watched c.args.worker.now.number done.1 c.args.share.now c.write-end.new.share _ done.0 done.4 in
    subst (λ r. IfErr r Same) (sym (c.words.ensures ∙ ap (λ r. words g.V.Word64.of_word r) (c.replaced.ensures ∙ ap replaced done.5))) (words_refused g.V.Word64.of_word Same (replaced done.0) none)

pub returns-then-not-serves-clause-answers : goal.returns-then-not-serves-clause-answers
returns-then-not-serves-clause-answers g c = (Err Foreign, serves_foreign (is_held_by c.args.self.now.tree.id c.args.worker.now c.args.guard.now) _ (search rules), refl)

pub write-end-requires-clause-ready : goal.write-end-requires-clause-ready
write-end-requires-clause-ready g c = rw c.new-answers.ensures c.requires

pub returns-clause-answers : goal.returns-clause-answers
returns-clause-answers g c =
    let done = rw (c.new-answers.ensures, c.to_word.ensures.number) at c.write-end.ensures in
    (c.replaced.result, serves_done (is_held_by c.args.self.now.tree.id c.args.worker.now c.args.guard.now) _ c.replaced.result (search rules) (done.0, done.1, done.2, done.3, done.4, c.replaced.ensures ∙ ap replaced done.5), c.words.ensures)
