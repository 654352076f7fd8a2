use Rattle.std.proofs.Common.{◌+◌, arith}
use Rattle.crossbeam_epoch.proofs.lemmas.world.Whole.{going_begins, going_more, call_ends}
use Rattle.crossbeam_epoch.proofs.world.World.parts.Goals as goal

pub returns : goal.returns
returns g c = record {
  begins = λ s who op. going_begins s who op;
  more = λ s now new who op n newest event r g is on runs. going_more s who op n (n + 1) newest event now new r g is on runs (omega arith);
  ends = λ s now new who op n most newest event r lt g is on over. call_ends s who op n most newest event now new r lt g is on over;
}
