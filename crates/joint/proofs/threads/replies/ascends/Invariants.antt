use Rattle.std.proofs.Common.{◌≡◌, ◌≤◌, ◌^◌, drop}
use Rattle.std.specs.Prelude.{map}
use Rattle.joint.specs.threads.Threads.{ascends}
use Rattle.joint.proofs.threads.replies.ascends.Given as goal

-- the test of all keys is that of those which are left
abbrev pub invariant-loop-pair : goal.invariant-loop-pair
invariant-loop-pair g l =
    (ascends l.start l.end (map g.Q.Pair.key_of l.pairs) ≡ ascends l.least l.end (map g.Q.Pair.key_of (drop l.pair-index l.pairs))) × (l.least ≤ 2 ^ 64)
