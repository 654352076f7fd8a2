use Rattle.std.proofs.Common.{◌≡◌, ◌+◌, ◌*◌, length, drop}
use Rattle.trial.specs.Histories.{AreKept, writes_in}
use Rattle.trial.proofs.threads.own.Given as goal

-- the workers so far
abbrev pub invariant-loop-one : goal.invariant-loop-one
invariant-loop-one g l = record {
  rest : l.one-iterator.rest.items ≡ drop (length l.yielded) l.fn.worked.items;
  len : length l.own.items ≡ length l.yielded;
  kept : AreKept l.calls l.own.items;
  parts : l.all.parts ≡ l.fn.all.parts + length l.yielded;
  count : l.all.count ≡ l.fn.all.count + length l.yielded * writes_in l.calls;
}
