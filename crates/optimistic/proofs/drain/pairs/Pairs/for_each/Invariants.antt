use Rattle.std.specs.Prelude.{◌-◌, ◌^◌, ◌≤◌, unwrap_or}
use Rattle.std.specs.Fn.{Called}
use Rattle.optimistic.specs.tree.Drained.{rest, Gave}
use Rattle.optimistic.proofs.drain.pairs.Pairs.for_each.Given as goal

abbrev pub invariant-loop-from : goal.invariant-loop-from
invariant-loop-from g l = (rest l.self ≤ unwrap_or l.from (2 ^ 64)) × goal.F-IsAlwaysCallable g l.f × Gave (λ d k v e. Called g.F.FnMut d (k, (v, tt)) tt e) l.self (unwrap_or l.from (2 ^ 64)) l.initial.f l.f

abbrev pub decreases-loop-from : goal.decreases-loop-from
decreases-loop-from g l = 2 ^ 64 - unwrap_or l.from (2 ^ 64)
