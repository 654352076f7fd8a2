use Rattle.std.proofs.Common.{◌≡◌, [], replicate}
use Rattle.trial.proofs.open_tree.no_scans.Given as goal

abbrev pub invariant-loop-i : goal.invariant-loop-i
invariant-loop-i l = l.scans.items ≡ replicate l._i []
