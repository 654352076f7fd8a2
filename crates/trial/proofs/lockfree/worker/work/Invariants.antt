use Rattle.std.proofs.Common.{◌≡◌, ◌+◌, length}
use Rattle.trial.specs.Lockfree.{Calls}
use Rattle.trial.proofs.lockfree.worker.work.Given as goal

-- what came of the calls so far
abbrev pub invariant-loop-number : goal.invariant-loop-number
invariant-loop-number g l = record {
  index : l.worker.index ≡ l.index.tree.nodes.table.shared.table_id;
  made : Calls l.calls l.place l.number l.made.own.items l.made.refused l.worker;
  all : length l.made.own.items + l.made.refused ≡ l.number;
}
