use Rattle.std.specs.Prelude.{◌-◌, ◌^◌, ◌≤◌, unwrap_or}
use Rattle.optimistic.specs.tree.Drained.{rest}
use Rattle.optimistic.proofs.lemmas.drain.Numbers.{IsNumberTo}
use Rattle.optimistic.proofs.drain.pairs.Pairs.count.Given as goal

abbrev pub invariant-loop-from : goal.invariant-loop-from
invariant-loop-from l = (rest l.fn.self ≤ unwrap_or l.from (2 ^ 64)) × IsNumberTo l.fn.self (unwrap_or l.from (2 ^ 64)) l.count

abbrev pub decreases-loop-from : goal.decreases-loop-from
decreases-loop-from l = 2 ^ 64 - unwrap_or l.from (2 ^ 64)
