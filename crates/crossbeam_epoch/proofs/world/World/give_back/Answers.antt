use Rattle.std.proofs.Common.{◌∙◌, sym}
use Rattle.crossbeam_epoch.proofs.lemmas.world.Told.{tells_given_back, tells_none_back}
use Rattle.crossbeam_epoch.proofs.world.World.give_back.Goals as goal
use Rattle.crossbeam_epoch.proofs.world.World.give_back.Goals.{in-Some, in-None}

pub returns-clause-told : goal.returns-clause-told
returns-clause-told g c = elim c.match-take.branch [
  | in-Some w ↦ rw w.result-is (tells_given_back g.T.Links.names c.args.self.now _ c.take.new.self c.args.name _ c.self.view_is (sym w.in-Some.is ∙ c.take.ensures.value) c.take.ensures.cells)
  | in-None w ↦ rw w.result-is (tells_none_back g.T.Links.names c.args.self.now _ c.take.new.self c.args.name c.self.view_is (sym w.in-None.is ∙ c.take.ensures.value) c.take.ensures.cells)
]
