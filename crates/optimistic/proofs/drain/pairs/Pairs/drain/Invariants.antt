use Rattle.std.specs.Prelude.{List, ◌-◌, ◌^◌, ◌≤◌, unwrap_or}
use Rattle.optimistic.specs.declared.words.rule.Entry.{Entry}
use Rattle.optimistic.specs.tree.Drained.{rest, HasLog, IsDrained}
use Rattle.optimistic.proofs.drain.pairs.Pairs.drain.Given as goal

abbrev pub invariant-loop-from : goal.invariant-loop-from
invariant-loop-from l = (rest l.self ≤ unwrap_or l.from (2 ^ 64)) × ((log : List Entry) → HasLog l.self log → IsDrained log (rest l.self) (unwrap_or l.from (2 ^ 64)) l.pairs.items)

abbrev pub decreases-loop-from : goal.decreases-loop-from
decreases-loop-from l = 2 ^ 64 - unwrap_or l.from (2 ^ 64)
