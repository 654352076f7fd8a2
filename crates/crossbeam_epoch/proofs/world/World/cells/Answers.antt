use Rattle.crossbeam_epoch.proofs.lemmas.world.CellWrites.{placed_sets, replaced_sets, emptied_sets, next_vacant, next_unused}
use Rattle.crossbeam_epoch.proofs.lemmas.world.Givens.{live_given}
use Rattle.crossbeam_epoch.proofs.world.World.cells.Goals as goal

pub returns : goal.returns
returns g c = record {
  placed = λ st n v next. placed_sets st n v next;
  vacant = λ st n next. (next_vacant st n next n.turn, next_unused st n next);
  replaced = λ st n v live. replaced_sets st n v live;
  emptied = λ st n live. emptied_sets st n live;
  given = λ st n live. live_given st n live;
}
