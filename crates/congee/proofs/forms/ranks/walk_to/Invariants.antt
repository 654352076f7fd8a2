use Rattle.std.proofs.Common.{ℕ, ◌<◌, get_or}
use Rattle.congee.proofs.forms.ranks.walk_to.Given as goal

abbrev pub invariant-loop-place : goal.invariant-loop-place
invariant-loop-place g l = (j : ℕ) → j < l.place → get_or l.bytes j 0 < l.byte
