use Rattle.trial.proofs.Feeding.{Reached}
use Rattle.trial.proofs.script.Script.lines.Given as goal

abbrev pub invariant-loop-i : goal.invariant-loop-i
invariant-loop-i g l = Reached l.fn.self (g.W.Write.contents l.fn.writer) l.bytes l.start l.i l.self (g.W.Write.contents l.writer)
