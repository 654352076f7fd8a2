use Rattle.std.proofs.Common.{take}
use Rattle.std.specs.List.{flat_map}
use Rattle.trial.specs.Output.{Passes}
use Rattle.trial.specs.Texts.{drained_text}
use Rattle.trial.proofs.printing.put_all_drained.Given as goal

-- the first of them were put
abbrev pub invariant-loop-key : goal.invariant-loop-key
invariant-loop-key g l = Passes (g.W.Write.contents l.fn.writer) l.fn.output (g.W.Write.contents l.writer) l.output (flat_map drained_text (take l.key-index l.pairs))
