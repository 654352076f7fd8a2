use Rattle.std.proofs.Common.{sym, ap, ◌∙◌}
use Rattle.crossbeam_epoch.specs.face.Pointer.{is_foreign}
use Rattle.crossbeam_epoch.proofs.lemmas.face.Updates.{one_pointer, given_next, gave_next, gave_none}
use Rattle.crossbeam_epoch.proofs.face.atomic.Atomic.fetch_update.Goals as goal

pub returns-in-Ok-clause-asked : goal.returns-in-Ok-clause-asked
returns-in-Ok-clause-asked g c =
    let told = c.in-Ok.ensures.asked in
    gave_next (goal.F-step g) _ _ _ _ (λ s. ap (is_foreign s.link.site) c.id.ensures) (one_pointer told.0 c.of.result (told.1 ∙ sym (c.of.ensures ∙ c.found.ensures))) (given_next (goal.F-step g) _ _ _ _ told.2)

pub returns-in-Err-clause-asked : goal.returns-in-Err-clause-asked
returns-in-Err-clause-asked g c =
    let told = c.in-Err.ensures.asked in
    gave_none (goal.F-step g) _ _ _ _ (λ s. ap (is_foreign s.link.site) c.id.ensures) (one_pointer told.0 c.of-in-Err.result (told.1 ∙ sym (c.of-in-Err.ensures ∙ c.link.ensures))) told.2
