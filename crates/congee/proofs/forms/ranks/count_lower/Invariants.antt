use Rattle.congee.proofs.lemmas.forms.Ranks.{IsCount}
use Rattle.congee.proofs.forms.ranks.count_lower.Given as goal

abbrev pub invariant-loop-i : goal.invariant-loop-i
invariant-loop-i g l = IsCount l.bytes l.byte l.count l.i
