use Rattle.std.proofs.Common.{rules, ap, subst, sym, length, ◌∙◌}
use Rattle.std.specs.Prelude.{nat_le}
use Rattle.crossbeam_epoch.specs.face.Handle.{SealsUnder}
use Rattle.crossbeam_epoch.specs.Bags.{jobs_in}
use Rattle.crossbeam_epoch.specs.Limits.{bag_places}
use Rattle.crossbeam_epoch.proofs.lemmas.face.Guards.{with_place}
use Rattle.crossbeam_epoch.proofs.face.handle.LocalHandle.defer_destroy.Goals as goal

pub returns-clause-sealed : goal.returns-clause-sealed
returns-clause-sealed g c =
    let now = c.args.self.now in
    subst (λ s. SealsUnder (nat_le bag_places (length now.bag)) now.epoch (jobs_in now.bag) now.seals.queued s) (sym (ap (λ h. h.seals.queued) c.self-2.view_is)) (c.in_default.ensures.sealed (c.owns.ensures.out c.if-not-owns.false))

pub push-requires : goal.push-requires
push-requires g c = (search rules, with_place c.args.self.now.bag c.self-2.inside.bag (ap (λ h. h.bag) c.self-2.view_is ∙ c.in_default.ensures.bag))
