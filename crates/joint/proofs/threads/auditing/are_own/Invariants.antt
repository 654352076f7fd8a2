use Rattle.std.proofs.Common.{◌≡◌, ◌<◌, ℕ, Global, Some, Vec, slice_get}
use Rattle.judge.specs.declared.journal.Entry.{Entry}
use Rattle.joint.specs.threads.Auditing.{of_worker}
use Rattle.joint.proofs.threads.auditing.are_own.Given as goal

-- the lists so far are their workers' entries
abbrev pub invariant-loop-worker : goal.invariant-loop-worker
invariant-loop-worker l = (i : ℕ) (list : Vec (Entry ℕ) Global) → i < l.worker → slice_get l.own i ≡ Some list → list.items ≡ of_worker i l.journal
