use Rattle.std.proofs.Common.{◌≡◌, None, replicate}
use Rattle.trial.specs.Callers.{fresh}
use Rattle.trial.proofs.open_tree.no_callers.Given as goal

abbrev pub invariant-loop-i : goal.invariant-loop-i
invariant-loop-i l = l.callers.items ≡ replicate l._i (fresh None)
