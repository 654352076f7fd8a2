use Rattle.std.proofs.Common.{rules}
use Rattle.crossbeam_epoch.proofs.lemmas.world.FreeCells.{some_usable}
use Rattle.crossbeam_epoch.proofs.world.cells.Cells.has_room.Goals as goal

pub returns-then-not-is_empty-clause-some : goal.returns-then-not-is_empty-clause-some
returns-then-not-is_empty-clause-some g c = λ t. rw (← c.self.view_is) (some_usable c.self.inside.cells.items c.self.inside.free.items c.self.inside.most c.self.inside.turn_max c.self.invariant.0 (search rules))
