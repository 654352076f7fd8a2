use Rattle.std.proofs.Common.{nat_eq, take}
use Rattle.std.specs.FinMap.{empty}
use Rattle.judge.specs.Journal.{Legal}
use Rattle.judge.proofs.checker.check.Given as goal

abbrev pub invariant-loop-place : goal.invariant-loop-place
invariant-loop-place l = Legal nat_eq empty (take l.place l.journal) l.standing
