use Rattle.std.proofs.Common.{◌∙◌, ap, subst}
use Rattle.joint.specs.engine.Closing.{IsClosed}
use Rattle.joint.specs.engine.Engine.{World}
use Rattle.joint.proofs.world.World.close_with_journal.Goals as goal

pub returns-clause-closed : goal.returns-clause-closed
returns-clause-closed g c =
    let P : World g.row.P.Denot → Type 0 = λ s. IsClosed g.D.Drainer.drains s c.args.drainer (g.A.Allocator.charged_of c.close-allocator.result.0) (g.A.Allocator.limit_of c.close-allocator.result.0) c.close-allocator.result.1 in
    subst P c.self.view_is (record { no_worker = c.close-allocator.ensures.no_worker; drained = c.close-allocator.ensures.drained; pairs = c.close-allocator.ensures.pairs; charge_is = c.close-allocator.ensures.charge_is; limit_is = c.close-allocator.ensures.limit_is })

pub returns-clause-journal : goal.returns-clause-journal
returns-clause-journal g c = c.into_entries.ensures ∙ ap (λ (s : World g.row.P.Denot). s.log.entries) c.self.view_is
