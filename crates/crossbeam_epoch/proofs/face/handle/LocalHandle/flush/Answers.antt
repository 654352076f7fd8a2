use Rattle.std.proofs.Common.{ap, subst, sym, length, ◌<◌, ◌∙◌}
use Rattle.std.proofs.lemmas.Bool.{lt-ltb}
use Rattle.crossbeam_epoch.proofs.lemmas.face.Guards.{no_job, sealed_now, some_job}
use Rattle.crossbeam_epoch.specs.Bags.{jobs_in}
use Rattle.crossbeam_epoch.proofs.face.handle.LocalHandle.flush.Goals as goal

pub returns-then-is_empty-clause-ok : goal.returns-then-is_empty-clause-ok
returns-then-is_empty-clause-ok g c =
    let same = c.collect.ensures.same in
    let empty = no_job _ _ c.is_empty.ensures c.if-is_empty.true in (
      sym c.owns.ensures.value ∙ c.if-not-owns.false,
      ap (λ h. h.bag) same ∙ (sym (ap (λ h. h.bag) c.self.view_is) ∙ empty),
      same ∙ ap (λ h. record c.args.self.now { bag = h.bag; seals = h.seals; knows = c.collect.new.self.knows }) (sym same),
    )

pub returns-then-is_empty-clause-saw : goal.returns-then-is_empty-clause-saw
returns-then-is_empty-clause-saw g c = c.collect.ensures.saw (c.owns.ensures.out c.if-not-owns.false)

pub returns-in-Some-clause-sealed : goal.returns-in-Some-clause-sealed
returns-in-Some-clause-sealed g c =
    let out = c.owns.ensures.out c.if-not-owns.false in
    let some : 0 < length c.args.self.now.bag = subst (λ b. 0 < length b) (ap (λ h. h.bag) c.self.view_is) (some_job _ _ c.is_empty.ensures c.if-is_empty.false) in
    sealed_now _ _ _ _ _ _ (lt-ltb 0 _ some) c.in-Some.ensures.queued.0 (c.in-Some.ensures.queued.1 ∙ (ap (λ h. jobs_in h.bag) c.self-2.view_is ∙ ap (λ h. jobs_in h.bag) c.look-seal.ensures.same)) (c.look-seal.ensures.read out)
