use Rattle.std.proofs.Common.{sym, ◌∙◌, ap}
use Rattle.crossbeam_epoch.proofs.face.atomic.Atomic.update.Goals as goal

pub returns-in-Some-replace-clause-asked : goal.returns-in-Some-replace-clause-asked
returns-in-Some-replace-clause-asked g c =
    let same = c.of.ensures ∙ (c.link.ensures ∙ sym (c.in-Some-replace.ensures.0 ∙ c.link-in-loop.ensures)) in
    let written = c.in-Some-replace.ensures.1 ∙ c.load-next.ensures.value in
    (c.of.result, same, (c.in-Some-ask.next, c.in-Some-ask.ensures.asked, ap (λ l. l.site) written ∙ c.new.ensures.site, ap (λ l. l.tag) written ∙ c.new.ensures.tag))
