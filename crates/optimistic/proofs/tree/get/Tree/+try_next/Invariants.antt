use Rattle.std.specs.Prelude.{◌-◌, ◌^◌}
use Rattle.optimistic.proofs.tree.get.Tree.+try_next.Given as goal

abbrev pub decreases-try_next : goal.decreases-try_next
decreases-try_next l = 2 ^ 64 - l.from
