use Rattle.std.proofs.Common.{◌≡◌, ◌↔◌, drop}
use Rattle.joint.specs.threads.Auditing.{of_worker}
use Rattle.joint.proofs.threads.auditing.is_own.Given as goal

-- the list is the worker's entries exactly where its rest is those that are left
abbrev pub invariant-loop-entry : goal.invariant-loop-entry
invariant-loop-entry l = (l.list ≡ of_worker l.worker l.journal) ↔ (l.rest ≡ of_worker l.worker (drop l.entry-index l.journal))
