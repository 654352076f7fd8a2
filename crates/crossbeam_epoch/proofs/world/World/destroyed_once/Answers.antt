use Rattle.crossbeam_epoch.proofs.lemmas.world.CellWrites.{next_unused}
use Rattle.crossbeam_epoch.proofs.lemmas.world.Tellings.{once_told, opened_once, after_once, run_once, run_orderly, placed_once, replaced_once, emptied_once}
use Rattle.crossbeam_epoch.proofs.world.World.destroyed_once.Goals as goal

pub returns : goal.returns
returns g c = record {
  once = λ h st n t. once_told h st n t;
  opened = λ limits. opened_once g.row.T.Denot limits.cells limits.turn_max;
  step = λ h s who event r o is t. after_once h s who event r o is t;
  run = λ h s steps reports o are t. (run_orderly s steps reports o are, run_once h s steps reports o are t);
  placed = λ h st n v next t. placed_once h st n v next (next_unused st n next) t;
  replaced = λ h st n v live t. replaced_once h st n v live t;
  given_back = λ h st n live t. emptied_once h st n live t;
  deferred = λ h st k name t. t;
}
