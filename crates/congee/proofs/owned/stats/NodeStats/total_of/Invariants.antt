use Rattle.std.proofs.Common.{◌≡◌, take}
use Rattle.congee.specs.owned.StatsText.{total_of}
use Rattle.congee.proofs.owned.stats.NodeStats.total_of.Given as goal

abbrev pub invariant-loop-level : goal.invariant-loop-level
invariant-loop-level l = l.total ≡ total_of l.form (take l.level-index l.level-items)
