use Rattle.std.proofs.Common.{◌≡◌, ◌≤◌, ◌+◌, ◌*◌, ◌^◌, List, drop, length}
use Rattle.optimistic.specs.declared.words.rule.Entry.{Entry as Decided}
use Rattle.optimistic.specs.tree.Drained.{IsDrained}
use Rattle.trial.specs.Lockfree.{AreCounted, together}
use Rattle.trial.proofs.lockfree.tallies.Tallies.of.Given as goal

-- the workers so far
abbrev pub invariant-loop-one : goal.invariant-loop-one
invariant-loop-one l = record {
  rest : l.one-iterator.rest.items ≡ drop (length l.yielded) l.fn.made.items;
  len : length l.each.items ≡ length l.yielded;
  counted : (log : List Decided) → IsDrained log 0 (2 ^ 64) l.pairs → AreCounted log l.fn.made.items l.each.items;
  all : l.all ≡ together l.each.items;
  calls : l.all.made + l.all.refused ≤ 10000 * length l.yielded;
  pairs : l.all.pairs ≤ 97 * length l.yielded;
}
