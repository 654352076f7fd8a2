use Rattle.std.proofs.Common.{ℕ, ◌-◌}
use Rattle.joint.specs.declared.steps.Outcome.{Outcome}
use Rattle.trial.specs.declared.open_tree.OpenTree.{OpenTree}
use Rattle.trial.specs.Calling.{GoesOn}
use Rattle.trial.proofs.open_tree.OpenTree.go_on.Given as goal

-- what the steps that are left make of the call, all of them make of it as it stood at the start
abbrev pub invariant-loop-i : goal.invariant-loop-i
invariant-loop-i l = (new : OpenTree) (told : Outcome ℕ) → GoesOn l.worker (l.most - l._i) l.self l.outcome told new → GoesOn l.worker l.most l.fn.self l.fn.outcome told new
