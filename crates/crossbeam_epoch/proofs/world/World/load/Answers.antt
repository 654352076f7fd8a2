use Rattle.std.proofs.Common.{subst, ◌∙◌}
use Rattle.std.proofs.lemmas.Option.{slice_get_read}
use Rattle.crossbeam_epoch.specs.world.Reach.{InSight}
use Rattle.crossbeam_epoch.proofs.lemmas.world.Reaches.{root_sight}
use Rattle.crossbeam_epoch.proofs.world.World.load.Goals as goal

pub returns-clause-seen : goal.returns-clause-seen
returns-clause-seen g c =
    let there = slice_get_read c.self.inside.roots.items c.len.result c.args.root c.index.result.now (c.len.ensures ∙ c.self.inside.roots.ok.0) c.if-root-len.false c.index.ensures in
    subst (λ s. InSight g.T.Links.names s c.index.result.now) c.self.view_is (root_sight g.T.Links.names _ c.args.root c.index.result.now there)
