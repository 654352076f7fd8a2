use Rattle.std.proofs.Common.{rules, refl, sym, ap, subst, ◌≡◌, ◌∙◌}
use Rattle.std.specs.Prelude.{Err, IfErr}
use Rattle.joint.specs.declared.refusal.Refusal.TheVariants.{Foreign}
use Rattle.joint.specs.threads.Threads.{is_held_by, inserted, words}
use Rattle.joint.proofs.lemmas.threads.WritingEnds.{serves_foreign, insert_refused, words_refused}
use Rattle.joint.proofs.threads.journaled.Journaled.insert.Goals as goal

pub returns-clause-refused : goal.returns-clause-refused
returns-clause-refused g c =
    let done = c.write_silently.ensures in
    let Same = λ (e : _). c.write_silently.new.share ≡ c.args.share.now in
    let none = insert_refused g.W.Watch.watched c.args.worker.now.number done.1 c.args.share.now c.write_silently.new.share _ _ done.0 done.4 in
    subst (λ r. IfErr r Same) (sym (c.words.ensures ∙ ap (λ r. words g.V.Word64.of_word r) (c.inserted.ensures ∙ ap inserted done.5))) (words_refused g.V.Word64.of_word Same (inserted done.0) none)

pub returns-then-not-serves-clause-answers : goal.returns-then-not-serves-clause-answers
returns-then-not-serves-clause-answers g c = (Err Foreign, serves_foreign (is_held_by c.args.self.now.tree.id c.args.worker.now c.args.guard.now) _ (search rules), refl)
