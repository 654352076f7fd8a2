use Rattle.std.proofs.Common.{take}
use Rattle.std.specs.List.{flat_map, enumerate_from}
use Rattle.std.specs.Fmt.{HasWritten, IsPlainFormatter}
use Rattle.congee.specs.owned.StatsText.{level_line}
use Rattle.congee.proofs.owned.stats.NodeStatsDisplay.fmt.Given as goal

abbrev pub invariant-loop-number : goal.invariant-loop-number
invariant-loop-number g l =
    IsPlainFormatter l.fn.f → HasWritten g.W.Write.write_str_gives l.fn.f (flat_map level_line (take l.number (enumerate_from 0 l.level-items))) l.f
