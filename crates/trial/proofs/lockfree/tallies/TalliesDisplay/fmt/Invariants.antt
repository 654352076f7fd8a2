use Rattle.std.proofs.Common.{take}
use Rattle.std.specs.Fmt.{HasWritten, IsPlainFormatter}
use Rattle.std.specs.List.{flat_map}
use Rattle.trial.specs.Lockfree.{tally_text}
use Rattle.trial.proofs.lockfree.tallies.TalliesDisplay.fmt.Given as goal

abbrev pub invariant-loop-tally : goal.invariant-loop-tally
invariant-loop-tally g l = IsPlainFormatter l.fn.f → HasWritten g.W.Write.write_str_gives l.fn.f (flat_map tally_text (take l.tally-index l.self.each.items)) l.f
