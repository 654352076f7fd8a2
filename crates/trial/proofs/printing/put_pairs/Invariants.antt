use Rattle.std.proofs.Common.{take}
use Rattle.trial.specs.Output.{Passes}
use Rattle.trial.specs.Texts.{pairs_text}
use Rattle.trial.proofs.printing.put_pairs.Given as goal

-- the first of them were put
abbrev pub invariant-loop-key : goal.invariant-loop-key
invariant-loop-key g l = Passes (g.W.Write.contents l.fn.writer) l.fn.output (g.W.Write.contents l.writer) l.output (pairs_text (take l.key-index l.pairs))
