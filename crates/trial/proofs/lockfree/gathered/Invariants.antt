use Rattle.std.proofs.Common.{◌≡◌, drop, length}
use Rattle.trial.specs.Lockfree.{AreWorked}
use Rattle.trial.proofs.lockfree.gathered.Given as goal

-- the workers so far
abbrev pub invariant-loop-one : goal.invariant-loop-one
invariant-loop-one l = record {
  rest : l.one-iterator.rest.items ≡ drop (length l.yielded) l.fn.worked.items;
  len : length l.made.items ≡ length l.yielded;
  index : l.last.index ≡ l.index.tree.nodes.table.shared.table_id;
  worked : AreWorked l.calls l.made.items l.last.seen;
}
