use Rattle.std.proofs.Common.{◌≡◌, ◌≤◌, ◌^◌, ◌++◌, List}
use Rattle.optimistic.specs.declared.words.rule.Entry.{Entry as Decided}
use Rattle.optimistic.specs.tree.Drained.{IsDrained}
use Rattle.trial.specs.Lockfree.{looks, valued}
use Rattle.trial.proofs.lockfree.tallies.look_at_all.Given as goal

-- the keys so far
abbrev pub invariant-loop-number : goal.invariant-loop-number
invariant-loop-number l = record {
  looks : (log : List Decided) → IsDrained log 0 (2 ^ 64) l.pairs → l.own.items ≡ l.fn.own.items ++ looks log l.worker l.number;
  found : (log : List Decided) → IsDrained log 0 (2 ^ 64) l.pairs → l.found ≡ valued log l.worker l.number;
  few : l.found ≤ l.number;
}
