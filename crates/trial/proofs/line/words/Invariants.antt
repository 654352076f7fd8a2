use Rattle.trial.proofs.Splitting.{Lexed}
use Rattle.trial.proofs.line.words.Given as goal

abbrev pub invariant-loop-i : goal.invariant-loop-i
invariant-loop-i l = Lexed l.line l.start l.i l.words.items
