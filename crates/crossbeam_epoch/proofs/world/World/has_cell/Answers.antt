use Rattle.crossbeam_epoch.proofs.world.World.has_cell.Goals as goal

pub returns-clause-some : goal.returns-clause-some
returns-clause-some g c = λ y. rw (← c.self.view_is) (c.has_room.ensures.some y)
