use Rattle.std.proofs.Common.{◌≤◌, ◌-◌}
use Rattle.congee.proofs.owned.writing.Nodes+u64.look_ahead.Given as goal

abbrev pub invariant-loop-byte : goal.invariant-loop-byte
invariant-loop-byte l = l.from ≤ l.byte

abbrev pub decreases-loop-byte : goal.decreases-loop-byte
decreases-loop-byte l = 256 - l.byte
