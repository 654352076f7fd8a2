use Rattle.std.proofs.Common.{◌≡◌, ◌+◌, length}
use Rattle.trial.specs.Histories.{AreCalls, writes_in}
use Rattle.trial.proofs.worker.Caller.work.Given as goal

-- what was kept is of the calls so far
abbrev pub invariant-loop-number : goal.invariant-loop-number
invariant-loop-number g l = record {
  place : l.caller.place ≡ l.fn.self.place;
  made : AreCalls l.calls l.fn.self.place l.own.items;
  all : length l.own.items ≡ l.number;
  parts : l.caller.share.parts ≡ l.fn.self.share.parts;
  count : l.caller.share.count ≡ l.fn.self.share.count + writes_in l.number;
}
