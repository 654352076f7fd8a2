use Rattle.crossbeam_epoch.proofs.face.atomic.Atomic.update.Given as goal

abbrev pub invariant-loop : goal.invariant-loop
invariant-loop g l = goal.F-IsAlwaysCallable g l.f
