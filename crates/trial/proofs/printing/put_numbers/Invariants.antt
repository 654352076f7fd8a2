use Rattle.std.proofs.Common.{take}
use Rattle.std.specs.List.{flat_map}
use Rattle.trial.specs.Output.{Passes}
use Rattle.trial.specs.Texts.{spaced}
use Rattle.trial.proofs.printing.put_numbers.Given as goal

-- the first of them were put
abbrev pub invariant-loop-n : goal.invariant-loop-n
invariant-loop-n g l = Passes (g.W.Write.contents l.fn.writer) l.fn.output (g.W.Write.contents l.writer) l.output (flat_map spaced (take l.n-index l.numbers))
